-- Laws of how many halvings leave one place.
use Prim.Native.Nat.{ℕ, zero, suc, ◌-◌, ◌^◌, ◌≤◌, ◌<◌}
use mathlib.Core.Path.{◌≡◌, refl, ap}
use mathlib.Core.Bool.{Bool, true, false, cond}
use native.Mathlib.Omega.{arith}
use lib.Dec.{ltb}
use borrow.Author.Tests.{ltb-false, lt-ltb, le-ltb}
use Rattle.table_halving.specs.Halving.{half, halvings}

-- as many counted as there are places are enough
enough-counted : (k j n : ℕ) → n ≤ k → n ≤ j → halvings k n ≡ halvings j n
unfolding halvings
enough-counted zero zero n h i = refl
enough-counted zero (suc j) n h i = rw (lt-ltb n 2 (omega arith))
enough-counted (suc k) zero n h i = rw (lt-ltb n 2 (omega arith))
enough-counted (suc k) (suc j) n h i = go (ltb n 2) refl (enough-counted k j (n - half n))
  where
    go : (t : Bool) → ltb n 2 ≡ t → (n - half n ≤ k → n - half n ≤ j → halvings k (n - half n) ≡ halvings j (n - half n))
        → cond t 0 (suc (halvings k (n - half n))) ≡ cond t 0 (suc (halvings j (n - half n)))
    go true e f = refl
    go false e f = let l = ltb-false n 2 e in ap suc (f (omega arith) (omega arith))

-- one more
pub halvings-next : (n : ℕ) → 1 < n → halvings n n ≡ suc (halvings (n - half n) (n - half n))
unfolding halvings
halvings-next zero h = absurd (omega arith)
halvings-next (suc n) h = rw (le-ltb (suc n) 2 (omega arith)) (ap suc (enough-counted n (suc n - half (suc n)) (suc n - half (suc n)) (omega arith) (omega arith)))

-- none is left
pub halvings-last : (n : ℕ) → n ≤ 1 → halvings n n ≡ 0
unfolding halvings
halvings-last zero h = refl
halvings-last (suc n) h = rw (lt-ltb (suc n) 2 (omega arith))

-- no more than there are places
pub halvings-few : (k n : ℕ) → halvings k n ≤ n
unfolding halvings
halvings-few zero n = omega arith
halvings-few (suc k) n = go (ltb n 2) refl (halvings-few k (n - half n))
  where
    go : (t : Bool) → ltb n 2 ≡ t → halvings k (n - half n) ≤ n - half n → cond t 0 (suc (halvings k (n - half n))) ≤ n
    go true e h = omega arith
    go false e h = let l = ltb-false n 2 e in omega arith

-- as many bits as count the places are as many halvings
pub halvings-bits : (k j n : ℕ) → n ≤ 2 ^ j → halvings k n ≤ j
unfolding halvings
halvings-bits zero j n h = omega arith
halvings-bits (suc k) j n h = go j h (ltb n 2) refl (λ i. halvings-bits k i (n - half n))
  where
    go : (j : ℕ) → n ≤ 2 ^ j → (t : Bool) → ltb n 2 ≡ t → ((i : ℕ) → n - half n ≤ 2 ^ i → halvings k (n - half n) ≤ i) → cond t 0 (suc (halvings k (n - half n))) ≤ j
    go j h true e f = omega arith
    go zero h false e f = let l = ltb-false n 2 e in absurd (omega arith)
    go (suc i) h false e f = let l = ltb-false n 2 e in let m = f i (omega arith) in omega arith
