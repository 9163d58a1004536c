-- A journal may be cut anywhere.
use Prim.Native.Nat.{ℕ, zero, suc, ◌+◌, ◌-◌, ◌<◌}
use mathlib.Core.Path.{◌≡◌, refl, sym, ap, ◌∙◌}
use mathlib.Core.Bool.{Bool, true, false, cond, not, ◌&&◌, and-false}
use mathlib.Core.List.{List, ◌++◌, append_assoc}
use native.Mathlib.Nat.{add-zero}
use native.Mathlib.Omega.{arith}
use lib.Dec.{ltb, eqb}
use lib.ListN.{length, drop, length-drop, length-append}
use lib.Seq.{drop-append-le, drop-drop}
use borrow.Author.Tests.{eqb-true, eqb-false, ne_eqb, not-true}
use Rattle.laws.proofs.Tests.{either_way, true-false}
use Rattle.rules.specs.Sizes.{max_guests, max_endpoints}
use Rattle.journal_line_plain.specs.Plain.{bad_line, end_line}
use Rattle.journal_records.specs.declared.Item.{Item}
use Rattle.journal_records.specs.declared.Item.TheVariants.{Cut, Wrong, NamedGuest, NamedEndpoint, Start, NamedRegion, Request, Probe, AccessBy, Reset, Fetch}
use Rattle.journal_session.specs.declared.session.Session.{Session}
use Rattle.journal_records.specs.Items.{size_of, front}
use Rattle.journal_session.specs.Naming.{region_taken}
use Rattle.journal_session.specs.Steps.{record_room, RecordStep, unread, allowed, guest_step, endpoint_step, start_step, region_step, request_step, probe_step, access_step, reset_step, fetch_step, step_of, step_record}
use Rattle.journal_run.specs.Journal.{output_for, output_from, joined, played_for, played, Streams}
use Rattle.journal_records.proofs.Fields.{front-none}
use Rattle.journal_step.proofs.Reading.{step-reads}
use Rattle.journal_run.proofs.Longer.{is_cut, same-choice, step-more}

-- A STEP THAT READS NOTHING

module _ (p : Session) (t s : List ℕ) where
  -- a step that reads nothing changes nothing, and is bad unless the record is cut
  pub record Unread (i : Item) (x : RecordStep) : Type 0 where
    pub same : x ≡ unread p t x.bad
    pub cut : x.bad ≡ not (is_cut i)

  may-be-unread : (b : Bool) (i : Item) (x : RecordStep) → is_cut i ≡ false → x.read ≡ size_of s → (allowed b p t x).read ≡ 0 → Unread i (allowed b p t x)
  may-be-unread true i x c e h = absurd (omega (arith, e, h))
  may-be-unread false i x c e h = record { same = refl; cut = rw c }

  is-unread : (i : Item) → (step_of p t s i).read ≡ 0 → Unread i (step_of p t s i)
  unfolding step_of
  is-unread Cut h = record { same = refl; cut = refl }
  is-unread Wrong h = record { same = refl; cut = refl }
  is-unread (NamedGuest x) h = may-be-unread (not p.started && ltb p.state.settings.guests max_guests) (NamedGuest x) (guest_step p t s x) refl refl h
  is-unread (NamedEndpoint e g) h = may-be-unread (not p.started && ltb p.state.listed max_endpoints) (NamedEndpoint e g) (endpoint_step p t s e g) refl refl h
  is-unread (Start x) h = may-be-unread (not p.started) (Start x) (start_step p t s x) refl refl h
  is-unread (NamedRegion e q) h =
      may-be-unread (not p.started && region_taken p.state.listed p.state.endpoints p.state.regions e) (NamedRegion e q) (region_step p t s e q) refl refl h
  is-unread (Request g) h = may-be-unread p.started (Request g) (request_step p t s g) refl refl h
  is-unread (Probe g) h = may-be-unread p.started (Probe g) (probe_step p t s g) refl refl h
  is-unread (AccessBy x) h = may-be-unread p.started (AccessBy x) (access_step p t s x) refl refl h
  is-unread (Reset g) h = may-be-unread p.started (Reset g) (reset_step p t s g) refl refl h
  is-unread (Fetch g n) h = may-be-unread p.started (Fetch g n) (fetch_step p t s g n) refl refl h

  pub step-unread : (step_record p t s).read ≡ 0 → Unread (front s) (step_record p t s)
  unfolding step_record
  step-unread h = is-unread (front s) h

-- a step on a record that is cut reads nothing
cut-item : (p : Session) (t s : List ℕ) (i : Item) → is_cut i ≡ true → (step_of p t s i).read ≡ 0
unfolding step_of
cut-item p t s Cut h = refl
cut-item p t s Wrong h = true-false false h refl
cut-item p t s (NamedGuest f) h = true-false false h refl
cut-item p t s (NamedEndpoint e g) h = true-false false h refl
cut-item p t s (Start f) h = true-false false h refl
cut-item p t s (NamedRegion e q) h = true-false false h refl
cut-item p t s (Request g) h = true-false false h refl
cut-item p t s (Probe g) h = true-false false h refl
cut-item p t s (AccessBy x) h = true-false false h refl
cut-item p t s (Reset g) h = true-false false h refl
cut-item p t s (Fetch g n) h = true-false false h refl

cut-reads : (p : Session) (t s : List ℕ) → is_cut (front s) ≡ true → (step_record p t s).read ≡ 0
unfolding step_record
cut-reads p t s = cut-item p t s (front s)

-- a record that is not cut has a byte at least
there : (s : List ℕ) → is_cut (front s) ≡ false → 0 < length s
there s h =
    either_way (λ _. 0 < length s) (eqb (length s) 0) {x = tt {0}} {y = tt {0}}
    (λ e. let z : is_cut Cut ≡ is_cut (front s) = ap is_cut (front-none s (eqb-true (length s) 0 e)) in true-false true refl (z ∙ h))
    (λ e. let n = eqb-false (length s) 0 e in omega (arith, n))

-- THE WHOLE OUTPUT, STEP BY STEP

-- more steps than there are bytes change nothing
outputs-enough : (n m at : ℕ) (p : Session) (t s : List ℕ) → length s < n → length s < m → output_for n at p t s ≡ output_for m at p t s
unfolding output_for
outputs-enough zero m at p t s a b = absurd (omega arith)
outputs-enough (suc n) zero at p t s a b = absurd (omega arith)
outputs-enough (suc n) (suc m) at p t s a b =
    ap
    (λ z. cond (eqb (length s) 0) end_line z)
    (same-choice (eqb (step_record p t s).read 0) _ _ _ _ (λ _. refl) (λ e.
    let r = eqb-false (step_record p t s).read 0 e in
    let l = length-drop (step_record p t s).read s in
    ap (λ z. (step_record p t s).printed ++ z) (outputs-enough n m _ _ _ _ (omega (arith, r, l, step-reads p t s)) (omega (arith, r, l, step-reads p t s)))))

module _ (at : ℕ) (p : Session) (t s : List ℕ) where
  pub output-bad : 0 < length s → (step_record p t s).read ≡ 0 → output_from at p t s ≡ bad_line at
  unfolding output_for
  output-bad l e = rw (ne_eqb (length s) 0 (λ z. omega arith), e)

  output-step : 0 < (step_record p t s).read → output_from at p t s ≡ (step_record p t s).printed ++ output_from (at + (step_record p t s).read) (step_record p t s).session (step_record p t s).table (drop (step_record p t s).read s)
  unfolding output_for
  output-step l =
      let r = step-reads p t s in
      rw (ne_eqb (length s) 0 (λ z. omega arith), ne_eqb (step_record p t s).read 0 (λ z. omega arith))
      (ap (λ z. (step_record p t s).printed ++ z) (outputs-enough (length s) (suc (length (drop (step_record p t s).read s))) _ _ _ _ (omega (arith, length-drop (step_record p t s).read s)) (omega arith)))

-- THE PARTS

-- what a journal prints whose first part s was worked so far: that the part is bad is told at once where b says so, and else
-- found again in what is left
abbrev after : Bool → ℕ → RecordStep → List ℕ → List ℕ → List ℕ
after b at x s rest =
    x.printed ++ cond (b && x.bad) (bad_line (at + x.read)) (output_from (at + x.read) x.session x.table (drop x.read s ++ rest))

-- what is equal to both of two is equal to the one that a test picks
as_picked : {A : Type 0} (b : Bool) {x y z : A} → z ≡ x → z ≡ y → z ≡ cond b x y
as_picked true f g = f
as_picked false f g = g

module _ (b : Bool) (at : ℕ) (p : Session) (t s rest : List ℕ) where
  whole : output_from at p t (s ++ rest) ≡ output_from (at + 0) p t (s ++ rest)
  whole = ap (λ z. output_from z p t (s ++ rest)) (sym (add-zero at))

  -- nothing was read yet
  resumed : output_from at p t (s ++ rest) ≡ after b at (unread p t false) s rest
  resumed = rw (and-false b) whole

  -- the first record is not worked
  stopped-with : (c : Bool) → (step_record p t s).bad ≡ c → (step_record p t s).read ≡ 0 → output_from at p t (s ++ rest) ≡ after b at (unread p t c) s rest
  stopped-with false e h = resumed
  stopped-with true e h =
      let c : is_cut (front s) ≡ false = not-true (is_cut (front s)) (sym (step-unread p t s h).cut ∙ e) in
      let m : step_record p t (s ++ rest) ≡ step_record p t s = step-more s rest p t c in
      as_picked (b && true)
      (output-bad at p t (s ++ rest) (omega (arith, there s c, length-append s rest)) (ap (λ x. x.read) m ∙ h) ∙ ap bad_line (sym (add-zero at)))
      whole

  stopped : (step_record p t s).read ≡ 0 → output_from at p t (s ++ rest) ≡ after b at (step_record p t s) s rest
  stopped h = stopped-with (step_record p t s).bad refl h ∙ ap (λ x. after b at x s rest) (sym (step-unread p t s h).same)

  -- a record worked is not cut
  uncut : 0 < (step_record p t s).read → is_cut (front s) ≡ false
  uncut l = go (is_cut (front s)) refl
    where
      go : (c : Bool) → is_cut (front s) ≡ c → is_cut (front s) ≡ false
      go true e = absurd (omega (arith, cut-reads p t s e))
      go false e = e

  -- the first record is worked, and then what follows it
  went : (y : RecordStep)
      → 0 < (step_record p t s).read
      → output_from (at + (step_record p t s).read) (step_record p t s).session (step_record p t s).table (drop (step_record p t s).read s ++ rest) ≡ after b (at + (step_record p t s).read) y (drop (step_record p t s).read s) rest
      → output_from at p t (s ++ rest) ≡ after b at (joined (step_record p t s) y) s rest
  went y l h =
      let m : step_record p t (s ++ rest) ≡ step_record p t s = step-more s rest p t (uncut l) in
      let d : drop (step_record p t s).read (s ++ rest) ≡ drop (step_record p t s).read s ++ rest = drop-append-le (step_record p t s).read s rest (step-reads p t s) in
      let o = output-step at p t (s ++ rest) (rw m l) in
      let e : drop y.read (drop (step_record p t s).read s) ≡ drop ((step_record p t s).read + y.read) s = drop-drop y.read (step_record p t s).read s in
      let f : (at + (step_record p t s).read) + y.read ≡ at + ((step_record p t s).read + y.read) = omega arith in
      let q : output_from at p t (s ++ rest) ≡ (step_record p t s).printed ++ after b (at + (step_record p t s).read) y (drop (step_record p t s).read s) rest = rw (sym h) (rw (m, d) at o) in
      let x : List ℕ = cond (b && y.bad) (bad_line ((at + (step_record p t s).read) + y.read)) (output_from ((at + (step_record p t s).read) + y.read) y.session y.table (drop y.read (drop (step_record p t s).read s) ++ rest)) in
      q ∙ sym (append_assoc (step_record p t s).printed y.printed x) ∙ rw (e, f)

streams-for : (b : Bool) (n room at : ℕ) (p : Session) (t s rest : List ℕ) → length s < n → output_from at p t (s ++ rest) ≡ after b at (played_for n room p t s) s rest
unfolding played_for
streams-for b zero room at p t s rest a = absurd (omega arith)
streams-for b (suc n) room at p t s rest a =
    either_way (λ x. output_from at p t (s ++ rest) ≡ after b at x s rest) (ltb room record_room)
    (λ _. resumed b at p t s rest)
    (λ _. either_way (λ x. output_from at p t (s ++ rest) ≡ after b at x s rest) (eqb (step_record p t s).read 0)
    (λ e. stopped b at p t s rest (eqb-true (step_record p t s).read 0 e))
    (λ e.
    let r = eqb-false (step_record p t s).read 0 e in
    went b at p t s rest (played_for n (room - length (step_record p t s).printed) (step_record p t s).session (step_record p t s).table (drop (step_record p t s).read s)) (omega (arith, r))
    (streams-for b n (room - length (step_record p t s).printed) (at + (step_record p t s).read) (step_record p t s).session (step_record p t s).table (drop (step_record p t s).read s) rest
    (omega (arith, r, length-drop (step_record p t s).read s, step-reads p t s)))))

-- the claim of specs/Journal.antt
pub streams : Streams
streams room at p t s rest = streams-for true (suc (length s)) room at p t s rest (omega arith)

-- what is left of a part may be worked again with the rest: also where it is bad
pub resumes : (room at : ℕ) (p : Session) (t s rest : List ℕ) →
    let x = played room p t s in
    output_from at p t (s ++ rest) ≡ x.printed ++ output_from (at + x.read) x.session x.table (drop x.read s ++ rest)
resumes room at p t s rest = streams-for false (suc (length s)) room at p t s rest (omega arith)
