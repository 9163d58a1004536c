-- Where the records of a part stop.
use Prim.Native.Nat.{ℕ, zero, suc, ◌-◌, ◌≤◌}
use mathlib.Core.Path.{◌≡◌, refl, ap}
use mathlib.Core.Bool.{Bool, true, false}
use mathlib.Core.List.{List}
use native.Mathlib.Omega.{arith}
use lib.Dec.{ltb, eqb}
use lib.ListN.{length, drop, length-drop}
use borrow.Author.Tests.{eqb-true, eqb-false, ltb-true}
use Rattle.laws.proofs.Tests.{either_way, true-false}
use Rattle.journal_records.specs.Items.{longest_body, body_length, kind_of, size_of, item_of, front}
use Rattle.journal_records.proofs.Fields.{body-most}
use Rattle.journal_session.specs.declared.session.Session.{Session}
use Rattle.journal_session.specs.Steps.{record_room, RecordStep, unread, step_record}
use Rattle.journal_run.specs.Journal.{played_for, played}
use Rattle.journal_step.proofs.Reading.{step-reads}
use Rattle.journal_run.proofs.Repeating.{play-step}
use Rattle.journal_run.proofs.Longer.{is_cut, whole-uncut}
use Rattle.journal_run.proofs.Streaming.{step-unread}

-- no more is read than there is
reads-for : (n room : ℕ) (p : Session) (t s : List ℕ) → (played_for n room p t s).read ≤ length s
unfolding played_for
reads-for zero room p t s = omega arith
reads-for (suc n) room p t s =
    either_way (λ (x : RecordStep). x.read ≤ length s) (ltb room record_room) (λ _. omega arith) (λ _.
    either_way (λ (x : RecordStep). x.read ≤ length s) (eqb (step_record p t s).read 0) (λ _. step-reads p t s) (λ _.
    let r = reads-for n (room - length (step_record p t s).printed) (step_record p t s).session (step_record p t s).table (drop (step_record p t s).read s) in
    omega (arith, r, length-drop (step_record p t s).read s, step-reads p t s)))

module _ (room : ℕ) (p : Session) (t s : List ℕ) where
  pub played-reads : (played room p t s).read ≤ length s
  played-reads = reads-for (suc (length s)) room p t s

  -- where no record is worked, nothing changes and nothing is printed
  pub played-unread : (played room p t s).read ≡ 0 → played room p t s ≡ unread p t (played room p t s).bad
  unfolding played_for
  played-unread =
      either_way (λ (x : RecordStep). x.read ≡ 0 → x ≡ unread p t x.bad) (ltb room record_room) (λ _ h. refl) (λ _.
      either_way (λ (x : RecordStep). x.read ≡ 0 → x ≡ unread p t x.bad) (eqb (step_record p t s).read 0) (λ _ h. (step-unread p t s h).same) (λ e h.
      let r = eqb-false (step_record p t s).read 0 e in
      absurd (omega (arith, r, h))))

  -- where there is room, that is because the first is not worked
  pub first-stays : record_room ≤ room → (played room p t s).read ≡ 0 → (step_record p t s).read ≡ 0
  first-stays l h = go (eqb (step_record p t s).read 0) refl
    where
      go : (b : Bool) → eqb (step_record p t s).read 0 ≡ b → (step_record p t s).read ≡ 0
      go true e = eqb-true (step_record p t s).read 0 e
      go false e =
          let r = eqb-false (step_record p t s).read 0 e in
          let m = ap (λ x. x.read) (play-step room p t s l (omega (arith, r))) in
          absurd (omega (arith, r, h, m))

-- a record that is cut has no more bytes than the longest body
pub cut-few : (s : List ℕ) → is_cut (front s) ≡ true → length s ≤ longest_body
unfolding front
cut-few s =
    either_way (λ i. is_cut i ≡ true → length s ≤ longest_body) (eqb (length s) 0) (λ e _. omega (arith, eqb-true (length s) 0 e)) (λ _.
    either_way (λ i. is_cut i ≡ true → length s ≤ longest_body) (eqb (body_length (kind_of s)) 0) (λ _ h. true-false false h refl) (λ _.
    either_way (λ i. is_cut i ≡ true → length s ≤ longest_body) (ltb (length s) (size_of s)) (λ e _. omega (arith, ltb-true (length s) (size_of s) e, body-most (kind_of s))) (λ _ h.
    true-false (is_cut (item_of s)) h (whole-uncut s))))
