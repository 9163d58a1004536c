-- What the code gives back for a step.
use Rattle.std.specs.Prelude.{ℕ, ◌≡◌, Bool, List, length}
use Rattle.journal_text.specs.Placing.{placed}
use Rattle.journal_session.specs.declared.session.Session.{Session}
use Rattle.journal_session.specs.declared.session.StepResult.{StepResult}
use Rattle.journal_session.specs.Steps.{RecordStep}

abbrev pub step_result : ℕ → ℕ → Bool → StepResult
step_result n k b = record { read = n; printed = k; bad = b }

-- the session as left, a result, the table as left, and the buffer `out` as left with the lines at place k say all of a step
pub record Matches (p : Session) (r : StepResult) (table out left : List ℕ) (k : ℕ) (x : RecordStep) : Type 0 where
  pub session : p ≡ x.session
  pub words : table ≡ x.table
  pub read : r.read ≡ x.read
  pub printed : r.printed ≡ length x.printed
  pub bad : r.bad ≡ x.bad
  pub lines : left ≡ placed k x.printed out
