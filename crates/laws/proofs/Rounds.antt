-- What one round of a loop adds: to a test of the numbers below one, and to what is left of a list.
use Prim.Native.Nat.{ℕ, zero, suc, ◌+◌, ◌*◌, ◌≤◌, ◌<◌, min}
use mathlib.Core.Path.{◌≡◌, refl, sym, ◌∙◌}
use mathlib.Core.Bool.{Bool, true, false, ◌&&◌, and-true, and_comm}
use mathlib.Core.List.{List, ◌∷◌}
use native.Mathlib.Omega.{arith}
use native.Mathlib.Nat.{add-zero, add-suc, mul-zero, mul-suc}
use native.Mathlib.Numerals.{add-one}
use lib.Dec.{leb}
use lib.ListN.{length, get_or, take, drop}
use lib.Seq.{drop-cons, take_all}
use borrow.Author.Tests.{leb-true, leb-false}
use Rattle.laws.specs.Lists.{below}

pub below_none : (q : ℕ → Bool) → below 0 q ≡ true
unfolding below
below_none q = refl

pub below_next : (n : ℕ) (q : ℕ → Bool) → below (n + 1) q ≡ (q n && below n q)
unfolding below
below_next n q = rw (add-one n) refl

-- a loop that tests the numbers below n one by one: ok says it of those below i
pub record Tested (n : ℕ) (q : ℕ → Bool) (ok : Bool) (i : ℕ) : Type 0 where
  pub within : i ≤ n
  pub passed : ok ≡ below i q

module _ (n : ℕ) (q : ℕ → Bool) where
  pub tested-none : Tested n q true 0
  tested-none = record { within = omega arith; passed = sym (below_none q) }

  -- one number more
  pub tested-next : (ok b : Bool) (i : ℕ) → Tested n q ok i → i < n → b ≡ q i → Tested n q (b && ok) (i + 1)
  tested-next ok b i t h e = record { within = omega arith; passed = rw (e, t.passed) (sym (below_next i q)) }

  pub tested-all : (ok : Bool) (i : ℕ) → Tested n q ok i → n ≤ i → ok ≡ below n q
  tested-all ok i t h = let e : i ≡ n = omega arith in t.passed ∙ rw e

pub below-same : (n : ℕ) (p q : ℕ → Bool) → ((i : ℕ) → i < n → p i ≡ q i) → below n p ≡ below n q
unfolding below
below-same zero p q f = refl
below-same (suc n) p q f = rw (f n (omega arith), below-same n p q (λ i h. f i (omega arith)))

-- the numbers below a, then the b that follow
pub below-append : (a b : ℕ) (q : ℕ → Bool) → below (a + b) q ≡ (below a q && below b (λ j. q (a + j)))
unfolding below
below-append a zero q = rw (add-zero a) (sym (and-true (below a q)))
below-append a (suc b) q = rw (add-suc a b, below-append a b q) (go (q (a + b)) (below a q) _)
  where
    go : (x y z : Bool) → (x && (y && z)) ≡ (y && (x && z))
    go true y z = refl
    go false true z = refl
    go false false z = refl

-- n times m numbers, row by row
pub below-grid : (n m : ℕ) (q : ℕ → Bool) → below m (λ g. below n (λ j. q (n * g + j))) ≡ below (n * m) q
unfolding below
below-grid n zero q = rw (mul-zero n)
below-grid n (suc m) q = rw (mul-suc n m, below-append (n * m) n q, below-grid n m q) (and_comm (below n (λ j. q (n * m + j))) (below (n * m) q))

-- over a list, of which what is left to look at is a suffix
pub drop-next : {A : Type 0} (xs : List A) (i : ℕ) (z : A) → i < length xs → drop i xs ≡ get_or xs i z ∷ drop (i + 1) xs
drop-next xs i z h = rw add-one (drop-cons xs i z h)

-- of m elements, the first n are the first min n m
pub take-least : {A : Type 0} (n m : ℕ) (l : List A) → length l ≡ m → take (min n m) l ≡ take n l
take-least n m l e = go (leb n m) refl
  where
    go : (b : Bool) → leb n m ≡ b → take (min n m) l ≡ take n l
    go true h = let z : min n m ≡ n = omega (arith, leb-true n m h) in rw z
    go false h = take_all (min n m) l (omega (arith, leb-false n m h)) ∙ sym (take_all n l (omega (arith, leb-false n m h)))
