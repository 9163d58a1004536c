-- A region that is named is the last of its endpoint's regions, and those of any other endpoint stay.
use Prim.Native.Nat.{ℕ, suc, ◌+◌, ◌*◌, ◌<◌}
use mathlib.Core.Path.{◌≡◌, refl, sym, ◌∙◌}
use mathlib.Core.Bool.{Bool, true, false}
use mathlib.Core.List.{List, [], ◌∷◌, ◌++◌}
use native.Mathlib.Omega.{arith}
use lib.Dec.{ltb}
use lib.ListN.{length, get_or, set, length-set, length-append, get_or-append}
use lib.Seq.{get_or-set_same, get_or-set_other, get_or-append_seam}
use borrow.Author.Tests.{ltb-true, ltb-false}
use Rattle.laws.specs.Lists.{tab}
use Rattle.laws.proofs.Tables.{length-tab, get_d-tab, tab-is, tab-same}
use Rattle.rules.specs.declared.Region.{Region}
use Rattle.rules.specs.Sizes.{max_endpoints, max_regions, region_places}
use Rattle.rules.specs.Configuration.{region_count, region_word, region_at, regions_at}
use Rattle.journal_session.specs.Naming.{region_place, region_put, NamedLast, OthersStay}

-- one element more
tab-next : {A : Type 0} (n : ℕ) (f g : ℕ → A) (z : A) → ((i : ℕ) → i < n → f i ≡ g i) → f n ≡ z → tab (suc n) f ≡ tab n g ++ (z ∷ [])
tab-next {A} n f g z h e = tab-is (suc n) f (tab n g ++ (z ∷ [])) z (length-append (tab n g) (z ∷ []) ∙ rw (length-tab n g) (omega arith)) (λ i l. at i l (ltb i n) refl)
  where
    at : (i : ℕ) → i < suc n → (b : Bool) → ltb i n ≡ b → f i ≡ get_or (tab n g ++ (z ∷ [])) i z
    at i l true b =
        let k = ltb-true i n b in
        h i k ∙ sym (get_or-append (tab n g) (z ∷ []) z i (rw (length-tab n g) k) ∙ get_d-tab n g i z k)
    at i l false b =
        let k : i ≡ n = omega (arith, ltb-false i n b, l) in
        rw k (e ∙ sym (rw (length-tab n g) at (get_or-append_seam (tab n g) z [] z)))

module _ (w : List ℕ) (i j : ℕ) (q : Region) where
  -- the words with the count set, then the subtype, then the start, and then all of it
  abbrev A : List ℕ
  A = set w (13 * i) (suc j)

  abbrev B : List ℕ
  B = set A (region_place i j 0) q.subtype

  abbrev C : List ℕ
  C = set B (region_place i j 1) q.start

  abbrev W : List ℕ
  W = region_put i j q w

  -- a word that is none of the region's, and not its endpoint's count
  other : (x : ℕ) → (x ≡ 13 * i → ⊥) → (x ≡ region_place i j 0 → ⊥) → (x ≡ region_place i j 1 → ⊥) → (x ≡ region_place i j 2 → ⊥) → get_or W x 0 ≡ get_or w x 0
  other x a b c d =
      get_or-set_other C (region_place i j 2) x q.end 0 d
      ∙ get_or-set_other B (region_place i j 1) x q.start 0 c
      ∙ get_or-set_other A (region_place i j 0) x q.subtype 0 b
      ∙ get_or-set_other w (13 * i) x (suc j) 0 a

  module _ (l : length w ≡ region_places) (h : i < max_endpoints) (m : j < max_regions) where
    count-is : region_count W i ≡ suc j
    count-is =
        get_or-set_other C (region_place i j 2) (13 * i) q.end 0 (λ e. omega (arith, e))
        ∙ get_or-set_other B (region_place i j 1) (13 * i) q.start 0 (λ e. omega (arith, e))
        ∙ get_or-set_other A (region_place i j 0) (13 * i) q.subtype 0 (λ e. omega (arith, e))
        ∙ get_or-set_same w (13 * i) (suc j) 0 (omega (arith, l))

    subtype-is : region_word W i j 0 ≡ q.subtype
    subtype-is =
        get_or-set_other C (region_place i j 2) (region_place i j 0) q.end 0 (λ e. omega (arith, e))
        ∙ get_or-set_other B (region_place i j 1) (region_place i j 0) q.start 0 (λ e. omega (arith, e))
        ∙ get_or-set_same A (region_place i j 0) q.subtype 0 (simp length-set (omega (arith, l)))

    start_is : region_word W i j 1 ≡ q.start
    start_is =
        get_or-set_other C (region_place i j 2) (region_place i j 1) q.end 0 (λ e. omega (arith, e))
        ∙ get_or-set_same B (region_place i j 1) q.start 0 (simp length-set (omega (arith, l)))

    end_is : region_word W i j 2 ≡ q.end
    end_is = get_or-set_same C (region_place i j 2) q.end 0 (simp length-set (omega (arith, l)))

    last-is : region_at W i j ≡ q
    last-is = rw (subtype-is, start_is, end_is)

  -- the regions before it
  before-is : (k : ℕ) → k < j → region_at W i k ≡ region_at w i k
  before-is k h =
      rw (
        other (region_place i k 0) (λ e. omega (arith, e)) (λ e. omega (arith, e)) (λ e. omega (arith, e)) (λ e. omega (arith, e)),
        other (region_place i k 1) (λ e. omega (arith, e)) (λ e. omega (arith, e)) (λ e. omega (arith, e)) (λ e. omega (arith, e)),
        other (region_place i k 2) (λ e. omega (arith, e)) (λ e. omega (arith, e)) (λ e. omega (arith, e)) (λ e. omega (arith, e)),
      )

  -- the words of another endpoint
  module _ (k : ℕ) (h : k ≡ i → ⊥) (m : j < max_regions) where
    apart : (x : ℕ) → x < 13 → get_or W (13 * k + x) 0 ≡ get_or w (13 * k + x) 0
    apart x l =
        other (13 * k + x)
        (λ e. h (omega (arith, e, l, m)))
        (λ e. h (omega (arith, e, l, m)))
        (λ e. h (omega (arith, e, l, m)))
        (λ e. h (omega (arith, e, l, m)))

    same_count : region_count W k ≡ region_count w k
    same_count = let e : 13 * k + 0 ≡ 13 * k = omega arith in rw e at (apart 0 (omega arith))

    same-region : (x : ℕ) → x < max_regions → region_at W k x ≡ region_at w k x
    same-region x l = rw (apart (suc (3 * x + 0)) (omega arith), apart (suc (3 * x + 1)) (omega arith), apart (suc (3 * x + 2)) (omega arith))

-- the claims of specs/Naming.antt
pub named-last : NamedLast
unfolding regions_at
named-last i q w l h m =
    let j = region_count w i in
    rw (count-is w i j q l h m) (tab-next j (region_at (region_put i j q w) i) (region_at w i) q (before-is w i j q) (last-is w i j q l h m))

pub others-stay : OthersStay
unfolding regions_at
others-stay i k q w h m few =
    let j = region_count w i in
    rw (same_count w i j q k h m) (tab-same (region_count w k) (region_at (region_put i j q w) k) (region_at w k) (λ x l. same-region w i j q k h m x (omega arith)))
