-- A record is the same however the journal goes on after it.
use Prim.Native.Nat.{ℕ, suc, ◌+◌, ◌-◌, ◌≤◌, ◌<◌}
use mathlib.Core.Path.{◌≡◌, refl, sym, ap, ◌∙◌}
use mathlib.Core.Bool.{Bool, true, false, cond}
use mathlib.Core.List.{List, ◌++◌}
use native.Mathlib.Omega.{arith}
use lib.Dec.{leb, ltb, eqb}
use lib.ListN.{length, get_or, take, drop, length-drop, length-append, get_or-append}
use lib.Seq.{take-append-le, drop-append-le}
use borrow.Author.Tests.{eqb-true, eqb-false, ltb-false, ne_eqb, le-ltb}
use Rattle.laws.specs.Bytes.{le_number, le_field}
use Rattle.laws.proofs.Tests.{either_way, true-false}
use Rattle.rules.specs.Sizes.{max_faults}
use Rattle.journal_records.specs.declared.Item.{Item}
use Rattle.journal_records.specs.declared.Item.TheVariants.{Cut, Wrong, NamedGuest, NamedEndpoint, Start, NamedRegion, Request, Probe, AccessBy, Reset, Fetch}
use Rattle.journal_session.specs.declared.session.Session.{Session}
use Rattle.journal_records.specs.Items.{GUEST, ENDPOINT, START, REGION, REQUEST72, ACCESS, RESET, FETCH, body_length, kind_of, size_of, request_bytes, item_of, front, Fits}
use Rattle.journal_session.specs.Steps.{step_of, step_record}
use Rattle.journal_step.proofs.Reading.{works, front_fits}

-- two choices by one test
pub same-choice : {A : Type 0} (b : Bool) (x u y v : A) → (b ≡ true → x ≡ u) → (b ≡ false → y ≡ v) → cond b x y ≡ cond b u v
same-choice true x u y v f g = f refl
same-choice false x u y v f g = g refl

-- there is not all of the record at the front
abbrev pub is_cut : Item → Bool
is_cut Cut = true
is_cut Wrong = false
is_cut (NamedGuest f) = false
is_cut (NamedEndpoint e g) = false
is_cut (Start f) = false
is_cut (NamedRegion e q) = false
is_cut (Request g) = false
is_cut (Probe g) = false
is_cut (AccessBy x) = false
is_cut (Reset g) = false
is_cut (Fetch g n) = false

-- a whole record is not cut
pub whole-uncut : (s : List ℕ) → is_cut (item_of s) ≡ false
unfolding item_of
whole-uncut s =
    let Whole : Item → Type 0 = λ i. is_cut i ≡ false in
    either_way Whole (eqb (kind_of s) GUEST) (λ _. refl) (λ _.
    either_way Whole (eqb (kind_of s) ENDPOINT) (λ _. refl) (λ _.
    either_way Whole (eqb (kind_of s) START) (λ _. refl) (λ _.
    either_way Whole (eqb (kind_of s) REGION) (λ _. refl) (λ _.
    either_way Whole (eqb (kind_of s) REQUEST72) (λ _. refl) (λ _.
    either_way Whole (eqb (kind_of s) ACCESS) (λ _. either_way Whole (leb (get_or s 13 0) 1) (λ _. refl) (λ _. refl)) (λ _.
    either_way Whole (eqb (kind_of s) RESET) (λ _. refl) (λ _.
    either_way Whole (eqb (kind_of s) FETCH) (λ _. either_way Whole (leb (get_or s 2 0) max_faults) (λ _. refl) (λ _. refl)) (λ _. refl))))))))

module _ (s rest : List ℕ) where
  field-more : (k n : ℕ) → k + n ≤ length s → le_field k n (s ++ rest) ≡ le_field k n s
  field-more k n h =
      let a : drop k (s ++ rest) ≡ drop k s ++ rest = drop-append-le k s rest (omega arith) in
      let b : take n (drop k s ++ rest) ≡ take n (drop k s) = take-append-le n (drop k s) rest (omega (arith, length-drop k s)) in
      ap (λ z. le_number (take n z)) a ∙ ap le_number b

  at_more : (i : ℕ) → i < length s → get_or (s ++ rest) i 0 ≡ get_or s i 0
  at_more i h = get_or-append s rest 0 i h

  size-more : 0 < length s → size_of (s ++ rest) ≡ size_of s
  size-more h = ap (λ k. suc (body_length k)) (at_more 0 h)

  -- a record of kind k is all there
  abbrev Of : ℕ → Type 0
  Of k = (eqb (kind_of s) k ≡ true) → body_length k < length s

  of-kind : Fits s → (k : ℕ) → Of k
  of-kind f k e = rw (sym (eqb-true (kind_of s) k e)) f.2

  taken_more : Fits s → item_of (s ++ rest) ≡ item_of s
  unfolding item_of body_length
  taken_more f =
      let o = of-kind f in
      rw (at_more 0 f.0)
      (same-choice (eqb (kind_of s) GUEST) _ _ _ _
      (λ e. let l = o GUEST e in rw (field-more 1 2 (omega arith), field-more 3 8 (omega arith), field-more 11 8 (omega arith)))
      (λ _. same-choice (eqb (kind_of s) ENDPOINT) _ _ _ _
      (λ e. let l = o ENDPOINT e in rw (field-more 1 4 (omega arith), at_more 5 (omega arith)))
      (λ _. same-choice (eqb (kind_of s) START) _ _ _ _
      (λ e. let l = o START e in rw (field-more 1 8 (omega arith), field-more 9 8 (omega arith), field-more 17 8 (omega arith), field-more 25 4 (omega arith), field-more 29 4 (omega arith)))
      (λ _. same-choice (eqb (kind_of s) REGION) _ _ _ _
      (λ e. let l = o REGION e in rw (field-more 1 4 (omega arith), at_more 5 (omega arith), field-more 6 8 (omega arith), field-more 14 8 (omega arith)))
      (λ _. same-choice (eqb (kind_of s) REQUEST72) _ _ _ _
      (λ e. let l = o REQUEST72 e in rw (at_more 1 (omega arith)))
      (λ _. same-choice (eqb (kind_of s) ACCESS) _ _ _ _
      (λ e. let l = o ACCESS e in rw (field-more 1 4 (omega arith), field-more 5 8 (omega arith), at_more 13 (omega arith)))
      (λ _. same-choice (eqb (kind_of s) RESET) _ _ _ _
      (λ e. let l = o RESET e in rw (at_more 1 (omega arith)))
      (λ _. same-choice (eqb (kind_of s) FETCH) _ _ _ _
      (λ e. let l = o FETCH e in rw (at_more 1 (omega arith), at_more 2 (omega arith)))
      (λ _. let l = f.1 in let m = f.2 in rw (at_more 1 (omega arith)))))))))))

  front-more : is_cut (front s) ≡ false → front (s ++ rest) ≡ front s
  unfolding front
  front-more =
      either_way (λ i. is_cut i ≡ false → front (s ++ rest) ≡ i) (eqb (length s) 0) (λ e h. true-false true refl h) (λ a.
      let n = eqb-false (length s) 0 a in
      let l : 0 < length s = omega (arith, n) in
      let k = at_more 0 l in
      let m = length-append s rest in
      let w : eqb (length (s ++ rest)) 0 ≡ false = ne_eqb (length (s ++ rest)) 0 (λ z. omega (arith, n, m)) in
      either_way (λ i. is_cut i ≡ false → front (s ++ rest) ≡ i) (eqb (body_length (kind_of s)) 0) (λ e h. rw (w, k, e)) (λ b.
      either_way (λ i. is_cut i ≡ false → front (s ++ rest) ≡ i) (ltb (length s) (size_of s)) (λ e h. true-false true refl h) (λ c h.
      let f = ltb-false (length s) (size_of s) c in
      let z = eqb-false (body_length (kind_of s)) 0 b in
      rw (w, k, b, le-ltb (length (s ++ rest)) (size_of s) (omega (arith, f, m))) (taken_more (l, omega (arith, z), f)))))

  request-more : Fits s → request_bytes (s ++ rest) ≡ request_bytes s
  request-more f =
      let a : drop 2 (s ++ rest) ≡ drop 2 s ++ rest = drop-append-le 2 s rest (omega (arith, f.1, f.2)) in
      let b : take (size_of s - 2) (drop 2 s ++ rest) ≡ take (size_of s - 2) (drop 2 s) = take-append-le (size_of s - 2) (drop 2 s) rest (omega (arith, f.2, length-drop 2 s)) in
      rw (size-more f.0, a) b

  module _ (p : Session) (t : List ℕ) where
    item-more : (i : Item) → (works i ≡ true → Fits s) → step_of p t (s ++ rest) i ≡ step_of p t s i
    unfolding step_of
    item-more Cut f = refl
    item-more Wrong f = refl
    item-more (NamedGuest x) f = rw (size-more (f refl).0)
    item-more (NamedEndpoint e g) f = rw (size-more (f refl).0)
    item-more (Start x) f = rw (size-more (f refl).0)
    item-more (NamedRegion e q) f = rw (size-more (f refl).0)
    item-more (Request g) f = rw (request-more (f refl), size-more (f refl).0)
    item-more (Probe g) f = rw (request-more (f refl), size-more (f refl).0)
    item-more (AccessBy x) f = rw (size-more (f refl).0)
    item-more (Reset g) f = rw (size-more (f refl).0)
    item-more (Fetch g n) f = rw (size-more (f refl).0)

    pub step-more : is_cut (front s) ≡ false → step_record p t (s ++ rest) ≡ step_record p t s
    unfolding step_record
    step-more h = ap (step_of p t (s ++ rest)) (front-more h) ∙ item-more (front s) (front_fits s)
