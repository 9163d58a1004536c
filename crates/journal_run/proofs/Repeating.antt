-- Records worked one after another: the steps of the loop.
use Prim.Native.Nat.{ℕ, zero, suc, ◌-◌, ◌≤◌, ◌<◌}
use mathlib.Core.Path.{◌≡◌, refl, ap}
use mathlib.Core.Bool.{Bool, true, false, cond}
use mathlib.Core.List.{List}
use native.Mathlib.Omega.{arith}
use lib.Dec.{ltb, eqb}
use lib.ListN.{length, drop, length-drop}
use borrow.Author.Tests.{eqb-false, ne_eqb, lt-ltb, le-ltb}
use Rattle.journal_session.specs.declared.session.Session.{Session}
use Rattle.journal_session.specs.Steps.{record_room, step_record, unread}
use Rattle.journal_run.specs.Journal.{joined, played_for, played}
use Rattle.journal_step.proofs.Reading.{step-reads}

-- two terms that differ only where a test fails
either_same : {A : Type 0} (b : Bool) (x y z : A) → (b ≡ false → y ≡ z) → cond b x y ≡ cond b x z
either_same true x y z f = refl
either_same false x y z f = f refl

-- more steps than there are bytes change nothing
pub enough : (n m room : ℕ) (p : Session) (t s : List ℕ) → length s < n → length s < m → played_for n room p t s ≡ played_for m room p t s
unfolding played_for
enough zero m room p t s a b = absurd (omega arith)
enough (suc n) zero room p t s a b = absurd (omega arith)
enough (suc n) (suc m) room p t s a b =
    ap
    (λ z. cond (ltb room record_room) (unread p t false) z)
    (either_same (eqb (step_record p t s).read 0) _ _ _ (λ e.
    let r = eqb-false (step_record p t s).read 0 e in
    let l = length-drop (step_record p t s).read s in
    ap (joined (step_record p t s)) (enough n m _ _ _ _ (omega (arith, r, l, step-reads p t s)) (omega (arith, r, l, step-reads p t s)))))

module _ (room : ℕ) (p : Session) (t s : List ℕ) where
  -- no room for the lines of one more
  pub play-full : room < record_room → played room p t s ≡ unread p t false
  unfolding played_for
  play-full h = rw (lt-ltb room record_room h)

  -- no record is worked
  pub play-stop : record_room ≤ room → (step_record p t s).read ≡ 0 → played room p t s ≡ step_record p t s
  unfolding played_for
  play-stop h e = rw (le-ltb room record_room h, e)

  -- one record, then what follows it
  pub play-step : record_room ≤ room → 0 < (step_record p t s).read → played room p t s ≡ joined (step_record p t s) (played (room - length (step_record p t s).printed) (step_record p t s).session (step_record p t s).table (drop (step_record p t s).read s))
  unfolding played_for
  play-step h l =
      rw (le-ltb room record_room h, ne_eqb (step_record p t s).read 0 (λ z. omega arith))
      (ap (joined (step_record p t s)) (enough (length s) (suc (length (drop (step_record p t s).read s))) _ _ _ _ (omega (arith, length-drop (step_record p t s).read s, step-reads p t s)) (omega arith)))
