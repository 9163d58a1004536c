-- What one test shows of a word of the reserved regions, and the words of all places.
use Prim.Native.Nat.{ℕ, zero, suc, ◌+◌, ◌-◌, ◌/◌, ◌%◌, ◌≤◌, ◌<◌}
use mathlib.Core.Path.{◌≡◌, refl, sym, ap, subst, ◌∙◌}
use mathlib.Core.Bool.{Bool, true, false, cond, ◌&&◌}
use mathlib.Core.List.{List}
use mathlib.Core.Logic.{◌≢◌}
use native.Mathlib.Omega.{arith}
use lib.Dec.{ltb, eqb}
use lib.ListN.{length, get_or, get_or-eq_default}
use borrow.Author.Tests.{lt-ltb, le-ltb, eqb-true, eqb-false}
use Rattle.rules.specs.Sizes.{region_words, endpoint_region_words}
use Rattle.rules.specs.Configuration.{region_count, used_words, region_used}
use Rattle.std.specs.Array.{IsFromFnResult, IsFromFnResultFrom}
use Rattle.std.specs.Fn.{Called}
use denote.Param.Members.{Mut}
use Rattle.laws.specs.Lists.{tab}
use Rattle.laws.proofs.Tables.{tab-is}
use Rattle.call_setup.specs.Kept.{kept_word}

zero-or-zero : (b : Bool) → ◌≡◌ {A = ℕ} 0 (cond b 0 0)
zero-or-zero true = refl
zero-or-zero false = refl

nothing-used : (b : Bool) (x : ℕ) → 0 ≡ cond (b && false) x 0
nothing-used true x = refl
nothing-used false x = refl

module _ (n : ℕ) (w : List ℕ) (k : ℕ) where
  pub past_words : length w ≤ k → 0 ≡ kept_word n w k
  past_words h = rw (get_or-eq_default w 0 h) (zero-or-zero (region_used n w k))

  pub past-endpoints : n ≤ k / endpoint_region_words → 0 ≡ kept_word n w k
  unfolding region_used
  past-endpoints h = rw (le-ltb (k / endpoint_region_words) n h)

  -- the word of the number of the endpoint's regions
  count_at : get_or w (k - k % endpoint_region_words) 0 ≡ region_count w (k / endpoint_region_words)
  count_at = ap (λ (m : ℕ). get_or w m 0) (omega arith)

  pub past-use : get_or w (k - k % endpoint_region_words) 0 < (k % endpoint_region_words + 2) / region_words → 0 ≡ kept_word n w k
  unfolding region_used
  past-use h =
      let m : used_words w (k / endpoint_region_words) ≤ k % endpoint_region_words = omega (arith, h, count_at) in
      rw (le-ltb (k % endpoint_region_words) (used_words w (k / endpoint_region_words)) m) (nothing-used (ltb (k / endpoint_region_words) n) (get_or w k 0))

  pub in_use : k / endpoint_region_words < n → (k % endpoint_region_words + 2) / region_words ≤ get_or w (k - k % endpoint_region_words) 0 → get_or w k 0 ≡ kept_word n w k
  unfolding region_used
  in_use l h =
      let m : k % endpoint_region_words < used_words w (k / endpoint_region_words) = omega (arith, h, count_at) in
      rw (lt-ltb (k / endpoint_region_words) n l, lt-ltb (k % endpoint_region_words) (used_words w (k / endpoint_region_words)) m)

-- a list made by calls, which give q of each place
module _ {F : Type 0} (g : Mut F (ℕ × Unit {0}) ℕ) (f : F) (q : ℕ → ℕ) (turn : (i y : ℕ) (h : F) → Called g f (i, tt) y h → (h ≡ f) × (y ≡ q i)) (ys : List ℕ) where
  called : (i n : ℕ) (p : F) → p ≡ f → IsFromFnResultFrom g p ys i n → (k : ℕ) → i ≤ k → k < i + n → get_or ys k 0 ≡ q k
  called i zero p e c k a b = omega (arith, a, b)
  called i (suc n) p e c k a b =
      let now : (c.0 ≡ f) × (c.1 ≡ q i) = turn i c.1 c.0 (subst (λ h. Called g h (i, tt) c.1 c.0) e c.3) in
      go (eqb i k) refl (c.2.1 0 ∙ now.1) (λ j. called (i + 1) n c.0 now.0 c.4 k (omega (arith, j)) (omega arith))
    where
      go : (t : Bool) → eqb i k ≡ t → get_or ys i 0 ≡ q i → (i ≢ k → get_or ys k 0 ≡ q k) → get_or ys k 0 ≡ q k
      go true t here later = rw (eqb-true i k t) at here
      go false t here later = later (eqb-false i k t)

  pub made : (n : ℕ) → IsFromFnResult g f ys n → ys ≡ tab n q
  made n r = sym (tab-is n q ys 0 r.long (λ k h. sym (called 0 n f refl r.each k (omega arith) (omega arith))))
