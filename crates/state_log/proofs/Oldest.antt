-- Laws of a log whose oldest faults go.
use Prim.Native.Nat.{ℕ, ◌+◌, ◌*◌, ◌-◌, ◌/◌, ◌%◌, ◌≤◌, ◌<◌, min}
use mathlib.Core.Path.{◌≡◌, refl, sym, ap, ◌∙◌}
use mathlib.Core.Bool.{Bool, true, false, cond, ◌||◌}
use mathlib.Core.List.{List, ◌++◌}
use mathlib.Core.Logic.{◌≢◌}
use native.Mathlib.Nat.{sub-zero}
use native.Mathlib.Omega.{arith}
use lib.Dec.{ltb, leb, eqb}
use lib.ListN.{length, get_or, set, take, drop, replicate, length-drop, get_or-append}
use lib.Seq.{length-take-le, set-get_or}
use borrow.Rule.Slice.PartMut.{mid_of, post_of, put_mid, mid_len, same_len_mid, Post-is}
use borrow.Author.Tests.{ltb-true, ltb-false, eqb-true, lt-ltb, lt-leb, eq-eqb, ne_eqb}
use Rattle.std.proofs.lemmas.List.{length-replicate, length-append, get_or-take, get_or-drop, get_or-replicate, get_or-append_right}
use Rattle.laws.proofs.Tables.{tab-is}
use Rattle.rules.specs.Sizes.{max_guests, max_faults}
use Rattle.rules.specs.declared.Guest.{Guest}
use Rattle.rules.specs.declared.State.{State}
use Rattle.state_fields.specs.Fields.{with_counts, with_faults}
use Rattle.state_log.specs.Dropped.{shifted, shifted_all, drop_faults}

-- what stands at another guest's place stays
shifted-other : (g : Guest) (k : ℕ) (l : List ℕ) (i : ℕ) → i / max_faults ≢ g.0 → shifted g k l i ≡ get_or l i 0
unfolding shifted
shifted-other g k l i n = rw (ne_eqb (i / max_faults) g.0 n)

-- at a guest's place comes what stands k places on, or zero where that is past its places
module _ (g : Guest) (k : ℕ) (l : List ℕ) (j : ℕ) (own : j < max_faults) where
  shifted_own : shifted g k l (max_faults * g.0 + j) ≡ cond (ltb (j + k) max_faults) (get_or l (max_faults * g.0 + j + k) 0) 0
  unfolding shifted
  shifted_own =
      let p : (max_faults * g.0 + j) / max_faults ≡ g.0 = omega arith in
      let q : (max_faults * g.0 + j) % max_faults ≡ j = omega arith in
      rw (eq-eqb ((max_faults * g.0 + j) / max_faults) g.0 p, q)

-- guest g's places, with the list that is left of them put back
module _ (g : Guest) (k : ℕ) (l ys : List ℕ) (room : max_faults * g.0 + max_faults ≤ length l) where
  abbrev start : ℕ
  start = max_faults * g.0

  abbrev past : ℕ
  past = start + max_faults

  -- its places as they were, and what comes after them
  abbrev own : List ℕ
  own = mid_of start (past - start) l

  abbrev rest : List ℕ
  rest = post_of start (past - start) l

  -- the array afterwards
  abbrev new : List ℕ
  new = put_mid start (past - start) l ys

  long : length own ≡ max_faults
  long = mid_len start past l room ∙ omega arith

  -- what is then at each of them
  left : (j : ℕ) → j < max_faults → get_or (drop k own ++ replicate (min k (length own)) 0) j 0 ≡ cond (ltb (j + k) max_faults) (get_or l (start + j + k) 0) 0
  left j h = go (ltb (j + k) max_faults) refl
    where
      go : (b : Bool) → ltb (j + k) max_faults ≡ b
          → get_or (drop k own ++ replicate (min k (length own)) 0) j 0 ≡ cond b (get_or l (start + j + k) 0) 0
      go true t =
          let m : j + k < max_faults = ltb-true (j + k) max_faults t in
          get_or-append (drop k own) (replicate (min k (length own)) 0) 0 j (rw (length-drop k own, long) (omega arith))
          ∙ get_or-drop k own j 0
          ∙ get_or-take (past - start) (drop start l) (k + j) 0 (omega arith)
          ∙ get_or-drop start l (k + j) 0
          ∙ ap (λ (i : ℕ). get_or l i 0) (omega arith)
      go false t =
          let m : max_faults ≤ j + k = ltb-false (j + k) max_faults t in
          get_or-append_right (drop k own) (replicate (min k (length own)) 0) (length (drop k own)) j 0 refl (rw (length-drop k own, long) (omega arith))
          ∙ get_or-replicate (min k (length own)) (j - length (drop k own)) 0 0 (rw (length-drop k own, long) (omega arith))

  -- so it is at each place of the array: before the guest's, in them and after them
  before : (i : ℕ) → i < start → shifted g k l i ≡ get_or new i 0
  before i h =
      let fits : length (take start l) ≡ max_faults * g.0 = length-take-le start l (omega arith) in
      shifted-other g k l i (λ q. omega arith)
      ∙ sym (get_or-append (take start l) (ys ++ rest) 0 i (omega arith) ∙ get_or-take start l i 0 h)

  tail : (i : ℕ) → start ≤ i → get_or new i 0 ≡ get_or (ys ++ rest) (i - start) 0
  tail i h =
      get_or-append_right (take start l) (ys ++ rest) start i 0
      (length-take-le start l (omega arith)) h

  module _ (e : ys ≡ drop k own ++ replicate (min k (length own)) 0) where
    full : length ys ≡ max_faults
    full = rw (e, length-append (drop k own) (replicate (min k (length own)) 0), length-drop k own, length-replicate {A = ℕ} (min k (length own)) 0) (omega (arith, long))

    inside : (i : ℕ) → start ≤ i → i < past → shifted g k l i ≡ get_or new i 0
    inside i h m =
        let at : i ≡ start + (i - start) = omega arith in
        let j : i - start < max_faults = omega arith in
        ap (λ (n : ℕ). shifted g k l n) at
        ∙ shifted_own g k l (i - start) j
        ∙ sym (tail i h ∙ get_or-append ys rest 0 (i - start) (omega (arith, full)) ∙ ap (λ (x : List ℕ). get_or x (i - start) 0) e ∙ left (i - start) j)

    after : (i : ℕ) → past ≤ i → shifted g k l i ≡ get_or new i 0
    after i h =
        shifted-other g k l i (λ q. omega arith)
        ∙ sym (tail i (omega arith)
        ∙ get_or-append_right ys rest max_faults (i - start) 0 full (omega arith)
        ∙ ap (λ (x : List ℕ). get_or x (i - start - max_faults) 0) (Post-is start past l (omega arith))
        ∙ get_or-drop past l (i - start - max_faults) 0
        ∙ ap (λ (n : ℕ). get_or l n 0) (omega arith))

    pub shifted-places : new ≡ shifted_all g k l
    shifted-places = sym (tab-is (length l) (shifted g k l) new 0 (same_len_mid start (past - start) l ys (omega (arith, full, long))) (λ i h. at_place i (ltb i start) (ltb i past) refl refl))
      where
        at_place : (i : ℕ) (b c : Bool) → ltb i start ≡ b → ltb i past ≡ c → shifted g k l i ≡ get_or new i 0
        at_place i true c t u = before i (ltb-true i start t)
        at_place i false true t u = inside i (ltb-false i start t) (ltb-true i past u)
        at_place i false false t u = after i (ltb-false i past u)

-- the same where the places end at `p`, which the code may write in another way
pub shifted-up : (g : Guest) (k : ℕ) (l ys : List ℕ) (p : ℕ) → ys ≡ drop k (mid_of (max_faults * g.0) (p - max_faults * g.0) l) ++ replicate (min k (length (mid_of (max_faults * g.0) (p - max_faults * g.0) l))) 0 → max_faults * g.0 + max_faults ≤ length l → p ≡ max_faults * g.0 + max_faults → put_mid (max_faults * g.0) (p - max_faults * g.0) l ys ≡ shifted_all g k l
shifted-up g k l ys p e room at = rw at (shifted-places g k l ys room (rw at at e))

-- where there is no such guest, or none of its faults are to go, nothing changes
module _ (s : State) (g : Guest) (k : ℕ) (none : (leb max_guests g.0 || eqb k 0) ≡ true) where
  none-go : g.0 < max_guests → k ≡ 0
  none-go h = eqb-true k 0 (rw (lt-leb max_guests g.0 h) at none)

  none-shifted : k ≡ 0 → (l : List ℕ) → shifted_all g k l ≡ l
  unfolding shifted
  none-shifted z l = tab-is (length l) (shifted g k l) l 0 refl (λ i j. go i (eqb (i / max_faults) g.0))
    where
      go : (i : ℕ) (b : Bool) → cond b (cond (ltb (i % max_faults + k) max_faults) (get_or l (i + k) 0) 0) (get_or l i 0) ≡ get_or l i 0
      go i false = refl
      go i true = rw (lt-ltb (i % max_faults + k) max_faults (omega (arith, z))) (ap (λ m. get_or l m 0) (omega (arith, z)))

  none-counted : k ≡ 0 → (l : List ℕ) → set l g.0 (get_or l g.0 0 - k) ≡ l
  none-counted z l = rw (z, sub-zero) (set-get_or l g.0 0)

  pub none_dropped : s ≡ drop_faults s g k
  unfolding drop_faults
  none_dropped = go (ltb g.0 max_guests) refl
    where
      go : (b : Bool) → ltb g.0 max_guests ≡ b
          → s ≡ cond b (with_counts (set s.logged g.0 (get_or s.logged g.0 0 - k)) s.lost (with_faults (shifted_all g k s.reasons) (shifted_all g k s.flags) (shifted_all g k s.sources) (shifted_all g k s.addresses) s)) s
      go true t =
          let z = none-go (ltb-true g.0 max_guests t) in
          rw (none-counted z s.logged, none-shifted z s.reasons, none-shifted z s.flags, none-shifted z s.sources, none-shifted z s.addresses)
      go false t = refl
