-- What the code's results tell of a step.
use Prim.Native.Nat.{ℕ, ◌+◌, ◌≤◌}
use mathlib.Core.Path.{◌≡◌, refl, sym}
use mathlib.Core.Bool.{Bool, true, false, not, ◌&&◌, and-false}
use mathlib.Core.List.{List, []}
use lib.Dec.{leb}
use lib.ListN.{length}
use borrow.Author.Tests.{le-leb}
use Rattle.journal_text.proofs.Places.{placed-none}
use Rattle.journal_session.specs.declared.session.Session.{Session}
use Rattle.journal_session.specs.declared.session.StepResult.{StepResult}
use Rattle.journal_records.specs.declared.Item.{Item}
use Rattle.journal_records.specs.Items.{size_of, front}
use Rattle.journal_session.specs.Steps.{record_room, RecordStep, allowed, done, step_of, step_record, step_in}
use Rattle.journal_session.specs.Matching.{step_result, Matches}

-- nothing is printed: no record is worked, or one that names a guest, an endpoint or a region
pub matches-silent :
    {q p : Session} {r : StepResult} {n : ℕ} {b : Bool} {t out : List ℕ} {k : ℕ}
    → q ≡ p → r ≡ step_result n 0 b → Matches q r t out out k (record { session = p; table = t; read = n; printed = []; bad = b })
matches-silent {out = out} {k = k} h e =
    rw e (record { session = h; words = refl; read = refl; printed = refl; bad = refl; lines = sym (placed-none k out) })

-- a record that may not stand here is bad; one that may is worked
module _ (b : Bool) (x : RecordStep) (r : StepResult) (p : Session) (t out left : List ℕ) (k : ℕ) where
  pub refused : b ≡ false → r ≡ step_result 0 0 true → Matches p r t out out k (allowed b p t x)
  refused e h = rw e (matches-silent refl h)

  pub accepted : {q : Session} (words : List ℕ) → b ≡ true → Matches q r words out left k x → Matches q r words out left k (allowed b p t x)
  accepted words e h = rw e h

-- a result, with the session as left, tells of a record that names one more, which it may, and the session is then q
abbrev pub NameMatches : Session → Bool → List ℕ → Session → Session → StepResult → Type 0
NameMatches p may s q left r = (t out : List ℕ) (k : ℕ) → Matches left r t out out k (allowed (not p.started && may) p t (done s q t []))

module _ (p : Session) (may : Bool) (s : List ℕ) (q : Session) {r : StepResult} where
  pub named-late : p.started ≡ true → r ≡ step_result 0 0 true → NameMatches p may s q p r
  named-late h e t out k = refused (not p.started && may) (done s q t []) r p t out out k (rw h) e

  pub named_past : may ≡ false → r ≡ step_result 0 0 true → NameMatches p may s q p r
  named_past h e t out k = refused (not p.started && may) (done s q t []) r p t out out k (rw (h, and-false)) e

  pub named_more : {left : Session} → p.started ≡ false → may ≡ true → left ≡ q → (m : ℕ) → m ≡ size_of s → r ≡ step_result m 0 false → NameMatches p may s q left r
  named_more h l u m z e t out k = accepted (not p.started && may) (done s q t []) r p t out out k t (rw (h, l)) (matches-silent u (rw z at e))

-- the step of the item that stands at the front, where there is room for its lines
module _ (p : Session) (t s : List ℕ) where
  pub matches-step :
      {q : Session} {r : StepResult} {words out left : List ℕ} {k : ℕ} {i : Item}
      → leb (k + record_room) (length out) ≡ true
      → front s ≡ i
      → Matches q r words out left k (step_of p t s i)
      → Matches q r words out left k (step_in (length out) k p t s)
  unfolding step_record step_in
  matches-step h e g = rw (h, e) g

  -- and where there may be none
  pub matches-full : {r : StepResult} {out : List ℕ} {k : ℕ} → leb (k + record_room) (length out) ≡ false → r ≡ step_result 0 0 false → Matches p r t out out k (step_in (length out) k p t s)
  unfolding step_in
  matches-full h e = rw h (matches-silent refl e)

-- what is told of a step that had room
pub matched-in-room :
    (q : Session) (r : StepResult) (p : Session) (t s words out left : List ℕ) (k : ℕ)
    → k + record_room ≤ length out → Matches q r words out left k (step_in (length out) k p t s) → Matches q r words out left k (step_record p t s)
unfolding step_in
matched-in-room q r p t s words out left k h x = rw (le-leb (k + record_room) (length out) h) at x
