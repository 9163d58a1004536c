-- Laws of numbers that are zero from a place on.
use Prim.Native.Nat.{ℕ, ◌+◌, ◌-◌, ◌≤◌, ◌<◌}
use mathlib.Core.Path.{◌≡◌, refl, sym, ap, subst, ◌∙◌}
use mathlib.Core.Bool.{Bool, true, false}
use mathlib.Core.List.{List}
use native.Mathlib.Omega.{arith}
use lib.Dec.{ltb, eqb}
use lib.ListN.{length, get_or, drop, length-drop, get_or-eq_default}
use lib.Seq.{get_or-drop}
use borrow.Author.Tests.{ltb-true, ltb-false, eqb-true, eq-eqb}
use Rattle.laws.proofs.Tables.{all-at, all_of}
use Rattle.rules.specs.Sound.{zero_from}

module _ (n : ℕ) (l : List ℕ) where
  pub zero-at : (i : ℕ) → zero_from n l ≡ true → n ≤ i → i < length l → get_or l i 0 ≡ 0
  unfolding zero_from
  zero-at i h k m =
      sym (eqb-true 0 (get_or l i 0) (subst (λ (x : ℕ). eqb 0 x ≡ true) (get_or-drop n l (i - n) 0 ∙ ap (λ j. get_or l j 0) (omega arith)) (all-at (eqb 0) (drop n l) (i - n) 0 h (simp length-drop (omega arith)))))

  pub zero-from : ((i : ℕ) → n ≤ i → i < length l → get_or l i 0 ≡ 0) → zero_from n l ≡ true
  unfolding zero_from
  zero-from z =
      all_of (eqb 0) (drop n l) 0 (λ i h. eq-eqb 0 (get_or (drop n l) i 0) (sym (get_or-drop n l i 0 ∙ z (n + i) (omega arith) (omega (arith, simp length-drop at h)))))

  -- also past the list's end
  pub zero-past : (i : ℕ) → zero_from n l ≡ true → n ≤ i → get_or l i 0 ≡ 0
  zero-past i h k = go (ltb i (length l)) refl
    where
      go : (b : Bool) → ltb i (length l) ≡ b → get_or l i 0 ≡ 0
      go true e = zero-at i h k (ltb-true i (length l) e)
      go false e = get_or-eq_default l 0 (ltb-false i (length l) e)
