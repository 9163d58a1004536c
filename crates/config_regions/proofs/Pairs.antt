-- Pairs of a list, by their places.
use Prim.Native.Nat.{ℕ, zero, suc, ◌+◌, ◌≤◌, ◌<◌}
use mathlib.Core.Path.{◌≡◌, refl}
use mathlib.Core.Bool.{Bool, true}
use native.Mathlib.Omega.{arith}
use Rattle.laws.specs.Lists.{all?, pairwise, tab_from, tab}
use Rattle.laws.proofs.Tests.{both}
use Rattle.laws.proofs.Tables.{length-tab, length-tab_from, get_d-tab, get_d-tab_from, all_of, pairs-at}

module _ {A : Type 0} (q : A → A → Bool) (z : A) where
  pub pairs-tab-at : (n : ℕ) (f : ℕ → A) (k j : ℕ) → pairwise q (tab n f) ≡ true → k < j → j < n → q (f k) (f j) ≡ true
  pairs-tab-at n f k j h a b = rw (get_d-tab n f k z (omega arith), get_d-tab n f j z b) at (pairs-at q (tab n f) k j z h a (rw (length-tab n f) b))

  all-later : (p : A → Bool) (m n : ℕ) (f : ℕ → A) → ((j : ℕ) → m ≤ j → j < m + n → p (f j) ≡ true) → all? p (tab_from m n f) ≡ true
  all-later p m n f h = all_of p (tab_from m n f) z (λ j k. let b : j < n = rw (length-tab_from m n f) at k in rw (get_d-tab_from m n f j z b) (h (m + j) (omega arith) (omega arith)))

  pairs-later : (m n : ℕ) (f : ℕ → A) → ((k j : ℕ) → m ≤ k → k < j → j < m + n → q (f k) (f j) ≡ true) → pairwise q (tab_from m n f) ≡ true
  unfolding tab_from
  pairs-later m zero f h = refl
  pairs-later m (suc n) f h =
      both (all? (q (f m)) (tab_from (suc m) n f)) _
      (all-later (q (f m)) (suc m) n f (λ j a b. h m j (omega arith) (omega arith) (omega arith)))
      (pairs-later (suc m) n f (λ k j a b c. h k j (omega arith) b (omega arith)))

  pub pairs-tab : (n : ℕ) (f : ℕ → A) → ((k j : ℕ) → k < j → j < n → q (f k) (f j) ≡ true) → pairwise q (tab n f) ≡ true
  pairs-tab n f h = pairs-later 0 n f (λ k j a b c. h k j b (omega arith))
