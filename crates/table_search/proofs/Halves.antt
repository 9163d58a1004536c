-- Laws of halving.
use Prim.Native.Nat.{ℕ, zero, suc, ◌+◌, ◌-◌, ◌/◌, ◌≤◌, ◌<◌}
use mathlib.Core.Path.{◌≡◌, refl}
use mathlib.Core.Bool.{Bool, true, false, cond}
use mathlib.Core.Logic.{◌⊎◌, inl, inr}
use native.Mathlib.Omega.{arith}
use lib.Dec.{ltb}
use borrow.Author.Tests.{ltb-true, ltb-false, lt-ltb, le-ltb}
use Rattle.table_search.specs.Halving.{halved}

module _ (q : ℕ → Bool) where
  -- as many halvings as there are places are enough
  pub enough : (k j a n : ℕ) → n ≤ k → n ≤ j → halved k q a n ≡ halved j q a n
  unfolding halved
  enough zero zero a n h i = refl
  enough zero (suc j) a n h i = rw (lt-ltb n 2 (omega arith))
  enough (suc k) zero a n h i = rw (lt-ltb n 2 (omega arith))
  enough (suc k) (suc j) a n h i = go (ltb n 2) refl (λ b. enough k j b (n - n / 2))
    where
      go : (t : Bool) → ltb n 2 ≡ t → ((b : ℕ) → n - n / 2 ≤ k → n - n / 2 ≤ j → halved k q b (n - n / 2) ≡ halved j q b (n - n / 2))
          → cond t a (halved k q (cond (q (a + n / 2)) (a + n / 2) a) (n - n / 2)) ≡ cond t a (halved j q (cond (q (a + n / 2)) (a + n / 2) a) (n - n / 2))
      go true e f = refl
      go false e f = let l = ltb-false n 2 e in f (cond (q (a + n / 2)) (a + n / 2) a) (omega arith) (omega arith)

  -- one halving
  pub halved-next : (a n : ℕ) → 1 < n → halved n q a n ≡ halved (n - n / 2) q (cond (q (a + n / 2)) (a + n / 2) a) (n - n / 2)
  unfolding halved
  halved-next a zero h = absurd (omega arith)
  halved-next a (suc n) h = rw (le-ltb (suc n) 2 (omega arith)) (enough n (suc n - suc n / 2) _ (suc n - suc n / 2) (omega arith) (omega arith))

  -- none is left
  pub halved-last : (a n : ℕ) → n ≤ 1 → halved n q a n ≡ a
  unfolding halved
  halved-last a zero h = refl
  halved-last a (suc n) h = rw (lt-ltb (suc n) 2 (omega arith))

  -- the place is one of those
  pub halved-within : (k a n : ℕ) → 0 < n → halved k q a n < a + n
  unfolding halved
  halved-within zero a n h = omega arith
  halved-within (suc k) a n h = go (ltb n 2) refl (q (a + n / 2)) (λ b. halved-within k b (n - n / 2))
    where
      go : (t : Bool) → ltb n 2 ≡ t → (u : Bool) → ((b : ℕ) → 0 < n - n / 2 → halved k q b (n - n / 2) < b + (n - n / 2)) → cond t a (halved k q (cond u (a + n / 2) a) (n - n / 2)) < a + n
      go true e u f = omega arith
      go false e true f = let o = ltb-false n 2 e in let i = f (a + n / 2) (omega arith) in omega arith
      go false e false f = let o = ltb-false n 2 e in let i = f a (omega arith) in omega arith

-- the last of m places that passes a test, or the first place where none does
pub record Last (q : ℕ → Bool) (m p : ℕ) : Type 0 where
  pub within : p < m
  pub here : (p ≡ 0) ⊎ (q p ≡ true)
  pub after : (j : ℕ) → p < j → j < m → q j ≡ false

-- where no place after one that fails passes, halving finds the last that passes
module _ (q : ℕ → Bool) (m : ℕ) (falls : (i j : ℕ) → i ≤ j → j < m → q i ≡ false → q j ≡ false) where
  last-from : (k a n : ℕ) → n ≤ k → 0 < n → a + n ≤ m → (a ≡ 0) ⊎ (q a ≡ true) → ((j : ℕ) → a + n ≤ j → j < m → q j ≡ false) → Last q m (halved k q a n)
  unfolding halved
  last-from zero a n h l w s r = absurd (omega arith)
  last-from (suc k) a n h l w s r = go (ltb n 2) refl (q (a + n / 2)) refl (λ b. last-from k b (n - n / 2))
    where
      go : (t : Bool) → ltb n 2 ≡ t → (u : Bool) → q (a + n / 2) ≡ u
          → ((b : ℕ) → n - n / 2 ≤ k → 0 < n - n / 2 → b + (n - n / 2) ≤ m → (b ≡ 0) ⊎ (q b ≡ true) → ((j : ℕ) → b + (n - n / 2) ≤ j → j < m → q j ≡ false) → Last q m (halved k q b (n - n / 2)))
          → Last q m (cond t a (halved k q (cond u (a + n / 2) a) (n - n / 2)))
      go true e u x f = let o = ltb-true n 2 e in record { within = omega arith; here = s; after = λ j i. r j (omega arith) }
      go false e true x f = let o = ltb-false n 2 e in f (a + n / 2) (omega arith) (omega arith) (omega arith) (inr x) (λ j i. r j (omega arith))
      go false e false x f = let o = ltb-false n 2 e in f a (omega arith) (omega arith) (omega arith) s (λ j i y. falls (a + n / 2) j (omega arith) y x)

  pub last_found : 0 < m → Last q m (halved m q 0 m)
  last_found h = last-from m 0 m (omega arith) h (omega arith) (inl refl) (λ j i l. absurd (omega arith))
