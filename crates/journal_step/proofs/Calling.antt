-- What the code's results tell of a call: bad before the start, worked after it.
use Prim.Native.Nat.{ℕ, ◌+◌, ◌≤◌}
use mathlib.Core.Path.{◌≡◌, refl, sym, ap}
use mathlib.Core.Bool.{Bool, true, false}
use mathlib.Core.List.{List, []}
use lib.ListN.{length}
use borrow.Author.Tests.{le-leb}
use Rattle.rules.specs.declared.State.{State}
use Rattle.rules.specs.State.{Device}
use Rattle.rules.specs.Device.{Reply, SetUp}
use Rattle.refinement.specs.Flat.{device}
use Rattle.journal_text.specs.Placing.{written, written_count}
use Rattle.journal_records.specs.Items.{size_of}
use Rattle.journal_session.specs.declared.session.Session.{Session}
use Rattle.journal_session.specs.declared.session.StepResult.{StepResult}
use Rattle.journal_session.specs.Steps.{RecordStep, allowed, call_step}
use Rattle.journal_session.specs.Matching.{step_result, Matches}
use Rattle.journal_session.proofs.Matching.{refused, accepted}

-- what a start gives back, as a call that leaves no buffer
abbrev pub begun : SetUp → Reply × Device
begun u = (record { answer = u.answer; buffer = [] }, u.device)

-- a call is worked, and its lines are put where there is room for them
pub matches-call :
    (room : ℕ) (s : List ℕ) (print : Reply → List ℕ)
    {b : Bool} {d : State} {x : Reply} {r : StepResult} {y : Reply × Device} {words out left : List ℕ} {k c : ℕ}
    → k + room ≤ length out
    → b ≡ true
    → (x, device d words) ≡ y
    → (c ≡ written_count room k (print x) out) × (left ≡ written room k (print x) out)
    → r ≡ step_result (size_of s) c false
    → Matches (record { started = b; state = d }) r words out left k (call_step s print y)
unfolding written written_count
matches-call room s print {d = d} {out = out} {k = k} h a e w g =
    let p = rw (le-leb (k + room) (length out) h) at w in
    rw (sym e, g)
    (record { session = ap (λ (v : Bool). record { started = v; state = d }) a; words = refl; read = refl; printed = p.0; bad = refl; lines = p.1 })

-- before the start a call is bad
pub early : (x : RecordStep) {r : StepResult} {p : Session} {t out : List ℕ} {k : ℕ} → p.started ≡ false → r ≡ step_result 0 0 true → Matches p r t out out k (allowed p.started p t x)
early x h e = refused _ x _ _ _ _ [] _ h e

-- after it, it is worked
pub later : (p : Session) (t : List ℕ) {q : Session} {x : RecordStep} {r : StepResult} {words out left : List ℕ} {k : ℕ} → p.started ≡ true → Matches q r words out left k x → Matches q r words out left k (allowed p.started p t x)
later p t h e = accepted _ _ _ p t _ _ _ _ h e
