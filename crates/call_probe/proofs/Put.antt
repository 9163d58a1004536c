-- The properties of regions, put into a buffer one after another.
use Prim.Native.Nat.{ℕ, ◌+◌, ◌-◌, ◌*◌, ◌≤◌, ◌<◌, min}
use mathlib.Core.Path.{◌≡◌, refl, sym, ap, ◌∙◌}
use mathlib.Core.Bool.{Bool, true, false, cond}
use mathlib.Core.List.{List, [], ◌∷◌, ◌++◌, append-nil, append_assoc}
use native.Mathlib.Omega.{arith}
use native.Mathlib.Numerals.{add-one}
use lib.Dec.{ltb, eqb}
use lib.ListN.{length, get_or, take, drop, replicate, length-append, length-drop, length-replicate, get_or-replicate, get_or-append, get_or-eq_default}
use lib.Seq.{take-suc, take_at, take_all, length-take-le, drop-append-add, drop-drop, get_or-append-add, get_or-drop}
use borrow.Author.Tests.{eq-eqb, ltb-true, ltb-false}
use borrow.Rule.Slice.PartMut.{mid_of, put_mid, Post-is, mid_len}
use Rattle.laws.specs.Lists.{pad}
use Rattle.laws.proofs.Tables.{tab-is}
use Rattle.rules.specs.declared.Region.{Region}
use Rattle.rules.specs.Configuration.{region_count}
use Rattle.rules.specs.Sizes.{max_endpoints, max_regions}
use Rattle.wire_properties.specs.Properties.{property_put, properties_put}
use Rattle.wire_properties.proofs.Laws.{length-property}
use Rattle.state_regions.specs.Held.{held_count, held_regions}
use Rattle.state_regions.proofs.Regions.{length-held}

-- an endpoint has four regions at most
pub held-few : (w : List ℕ) (i : ℕ) → held_count w i ≤ 4
held-few w i = go (ltb i max_endpoints)
  where
    go : (b : Bool) → cond b (min (region_count w i) max_regions) 0 ≤ 4
    go true = omega arith
    go false = omega arith

-- the properties of the first j regions, and then the bytes that were there
abbrev pub written : List Region → ℕ → List ℕ → List ℕ
written l j d = properties_put (take j l) ++ drop (24 * j) d

-- the 24 bytes that property j is written to
abbrev pub slot : ℕ → List ℕ → List ℕ
slot j b = mid_of (24 * j) (24 * j + 24 - 24 * j) b

properties-append : (l m : List Region) → properties_put (l ++ m) ≡ properties_put l ++ properties_put m
properties-append [] m = refl
properties-append (q ∷ l) m = rw (properties-append l m) (sym (append_assoc (property_put q) (properties_put l) (properties_put m)))

length-properties : (l : List Region) → length (properties_put l) ≡ 24 * length l
length-properties [] = refl
length-properties (q ∷ l) = length-append (property_put q) (properties_put l) ∙ rw (length-property q, length-properties l) (omega arith)

module _ (l : List Region) (d : List ℕ) where
  -- one property more, written through the part of 24 bytes that begins after the earlier ones
  pub written_next : (j : ℕ) (b p : List ℕ) (z q : Region) → j < length l → b ≡ written l j d → 24 * j + 24 ≤ length b → q ≡ get_or l j z
      → p ≡ cond (eqb (length (slot j b)) 24) (property_put q) (slot j b)
      → put_mid (24 * j) (24 * j + 24 - 24 * j) b p ≡ written l (j + 1) d
  written_next j b p z q h was room this came =
      let A = properties_put (take j l) in
      let la : length A ≡ 24 * j = length-properties (take j l) ∙ ap (λ (n : ℕ). 24 * n) (length-take-le j l (omega arith)) in
      let e : p ≡ property_put q = came ∙ rw (eq-eqb (length (slot j b)) 24 (mid_len (24 * j) (24 * j + 24) b room ∙ omega arith)) in
      let one : take (j + 1) l ≡ take j l ++ (q ∷ []) = rw (add-one, this) (take-suc l j z h) in
      let next : properties_put (take (j + 1) l) ≡ A ++ p = ap properties_put one ∙ properties-append (take j l) (q ∷ []) ∙ rw (append-nil (property_put q), e) in
      let m : 24 * (j + 1) ≡ 24 * j + 24 = omega arith in
      let after : drop (24 * j + 24) (A ++ drop (24 * j) d) ≡ drop (24 * j + 24) d = rw (sym la, drop-append-add A (drop (length A) d) 24, drop-drop 24 (length A) d) in
      rw (was, take_at A (drop (24 * j) d) (24 * j) la, Post-is (24 * j) (24 * j + 24) (A ++ drop (24 * j) d) (omega arith), after, next, m) (sym (append_assoc A p (drop (24 * j + 24) d)))

  pub written_all : (j : ℕ) (b : List ℕ) → b ≡ written l j d → length l ≡ j → b ≡ properties_put l ++ drop (24 * j) d
  written_all j b e h = e ∙ rw (take_all j l (omega arith))

-- a list with the rest of n zeros after it
padded : (l : List ℕ) (n : ℕ) → length l ≤ n → l ++ drop (length l) (replicate n 0) ≡ pad n 0 l
padded l n h = sym (tab-is n (λ i. get_or l i 0) (l ++ drop (length l) (replicate n 0)) 0 sized (λ i k. go i k (ltb i (length l)) refl))
  where
    sized : length (l ++ drop (length l) (replicate {A = ℕ} n 0)) ≡ n
    sized = length-append l (drop (length l) (replicate n 0)) ∙ rw (length-drop (length l) (replicate {A = ℕ} n 0), length-replicate {A = ℕ} n 0) (omega arith)

    go : (i : ℕ) → i < n → (b : Bool) → ltb i (length l) ≡ b → get_or l i 0 ≡ get_or (l ++ drop (length l) (replicate n 0)) i 0
    go i k true t = sym (get_or-append l (drop (length l) (replicate n 0)) 0 i (ltb-true i (length l) t))
    go i k false t =
        let m : length l ≤ i = ltb-false i (length l) t in
        let e : i ≡ length l + (i - length l) = omega arith in
        get_or-eq_default l 0 m
        ∙ sym (ap (λ (x : ℕ). get_or (l ++ drop (length l) (replicate n 0)) x 0) e ∙ get_or-append-add l (drop (length l) (replicate n 0)) (i - length l) 0
        ∙ get_or-drop (length l) (replicate n 0) (i - length l) 0 ∙ get_or-replicate n (length l + (i - length l)) 0 0 (omega arith))

-- an endpoint's properties, and then zeros for what is left over
pub padded-properties : (w : List ℕ) (i : ℕ) → properties_put (held_regions w i) ++ drop (24 * held_count w i) (replicate 128 0) ≡ pad 128 0 (properties_put (held_regions w i))
padded-properties w i =
    let e : length (properties_put (held_regions w i)) ≡ 24 * held_count w i = length-properties (held_regions w i) ∙ rw (length-held w i) in
    rw (sym e) (padded (properties_put (held_regions w i)) 128 (omega (arith, e, held-few w i)))
