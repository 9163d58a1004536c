-- Laws of lists made by a function of the index, and of tests and sums below a number.
use Prim.Native.Nat.{ℕ, zero, suc, ◌+◌, ◌≤◌, ◌<◌}
use mathlib.Core.Path.{◌≡◌, refl, sym, ap, ◌∙◌}
use mathlib.Core.Bool.{Bool, true, false, cond, ◌||◌}
use mathlib.Core.List.{List, [], ◌∷◌}
use mathlib.Core.Logic.{◌≢◌}
use native.Mathlib.Omega.{arith}
use lib.Dec.{eqb}
use lib.ListN.{length, get_or, replicate}
use lib.Seq.{ext_get_or}
use borrow.Author.Tests.{eqb-true, eqb-false, ne_eqb}
use Rattle.laws.specs.Lists.{all?, any?, pairwise, below, sum_below, tab_from, tab, pad}
use Rattle.laws.proofs.Tests.{both, both_left, both_right, true-false, or_left, or_right}

-- tests below a number
pub below_at : (n : ℕ) (q : ℕ → Bool) (g : ℕ) → below n q ≡ true → g < n → q g ≡ true
unfolding below
below_at zero q g h l = absurd (omega arith)
below_at (suc n) q g h l = go (eqb g n) refl (λ m. below_at n q g (both_right (q n) (below n q) h) m)
  where
    go : (b : Bool) → eqb g n ≡ b → (g < n → q g ≡ true) → q g ≡ true
    go true e f = rw (eqb-true g n e) (both_left (q n) (below n q) h)
    go false e f = f (let k : g ≢ n = eqb-false g n e in omega arith)

pub below_all : (n : ℕ) (q : ℕ → Bool) → ((g : ℕ) → g < n → q g ≡ true) → below n q ≡ true
unfolding below
below_all zero q f = refl
below_all (suc n) q f = both (q n) (below n q) (f n (omega arith)) (below_all n q (λ g l. f g (omega arith)))

-- lists by index
module _ {A : Type 0} where
  pub length-tab_from : (k n : ℕ) (f : ℕ → A) → length (tab_from k n f) ≡ n
  unfolding tab_from
  length-tab_from k zero f = refl
  length-tab_from k (suc n) f = ap suc (length-tab_from (suc k) n f)

  pub get_d-tab_from : (k n : ℕ) (f : ℕ → A) (i : ℕ) (z : A) → i < n → get_or (tab_from k n f) i z ≡ f (k + i)
  unfolding tab_from
  get_d-tab_from k zero f i z h = absurd (omega arith)
  get_d-tab_from k (suc n) f zero z h = ap f (omega arith)
  get_d-tab_from k (suc n) f (suc i) z h = get_d-tab_from (suc k) n f i z (omega arith) ∙ ap f (omega arith)

  pub length-tab : (n : ℕ) (f : ℕ → A) → length (tab n f) ≡ n
  length-tab n f = length-tab_from 0 n f

  pub get_d-tab : (n : ℕ) (f : ℕ → A) (i : ℕ) (z : A) → i < n → get_or (tab n f) i z ≡ f i
  get_d-tab n f i z h = get_d-tab_from 0 n f i z h ∙ ap f (omega arith)

  -- by index, a list is what its elements are
  pub tab-is : (n : ℕ) (f : ℕ → A) (l : List A) (z : A) → length l ≡ n → ((i : ℕ) → i < n → f i ≡ get_or l i z) → tab n f ≡ l
  tab-is n f l z e h = ext_get_or z (tab n f) l (length-tab n f ∙ sym e) (λ i k. get_d-tab n f i z (rw (length-tab n f) at k) ∙ h i (rw (length-tab n f) at k))

  pub tab-same : (n : ℕ) (f g : ℕ → A) → ((i : ℕ) → i < n → f i ≡ g i) → tab n f ≡ tab n g
  unfolding tab_from
  tab-same n f g h = go 0 n f g (λ i k l. h i (omega arith))
    where
      go : (k n : ℕ) (f g : ℕ → A) → ((i : ℕ) → k ≤ i → i < k + n → f i ≡ g i) → tab_from k n f ≡ tab_from k n g
      go k zero f g h = refl
      go k (suc n) f g h = rw (h k (omega arith) (omega arith), go (suc k) n f g (λ i a b. h i (omega arith) (omega arith)))

  pub pad-is : (n : ℕ) (z : A) (l : List A) → length l ≡ n → pad n z l ≡ l
  pad-is n z l e = tab-is n (λ i. get_or l i z) l z e (λ i h. refl)

  pub replicate-is : (n : ℕ) (z : A) (l : List A) → length l ≡ n → ((i : ℕ) → i < n → get_or l i z ≡ z) → replicate n z ≡ l
  replicate-is zero z [] e h = refl
  replicate-is zero z (x ∷ l) e h = absurd (omega arith)
  replicate-is (suc n) z [] e h = absurd (omega arith)
  replicate-is (suc n) z (x ∷ l) e h = rw (h 0 (omega arith)) (ap (λ m. z ∷ m) (replicate-is n z l (omega arith) (λ i k. h (suc i) (omega arith))))

  pub all-tab : (q : A → Bool) (n : ℕ) (f : ℕ → A) → ((i : ℕ) → i < n → q (f i) ≡ true) → all? q (tab n f) ≡ true
  unfolding tab_from
  all-tab q n f h = go 0 n f (λ i k l. h i (omega arith))
    where
      go : (k n : ℕ) (f : ℕ → A) → ((i : ℕ) → k ≤ i → i < k + n → q (f i) ≡ true) → all? q (tab_from k n f) ≡ true
      go k zero f h = refl
      go k (suc n) f h = both (q (f k)) (all? q (tab_from (suc k) n f)) (h k (omega arith) (omega arith)) (go (suc k) n f (λ i a b. h i (omega arith) (omega arith)))

  pub all-at : (q : A → Bool) (l : List A) (i : ℕ) (z : A) → all? q l ≡ true → i < length l → q (get_or l i z) ≡ true
  all-at q [] i z h k = absurd (omega arith)
  all-at q (x ∷ l) zero z h k = both_left (q x) (all? q l) h
  all-at q (x ∷ l) (suc i) z h k = all-at q l i z (both_right (q x) (all? q l) h) (omega arith)

  pub all_of : (q : A → Bool) (l : List A) (z : A) → ((i : ℕ) → i < length l → q (get_or l i z) ≡ true) → all? q l ≡ true
  all_of q [] z h = refl
  all_of q (x ∷ l) z h = both (q x) (all? q l) (h 0 (omega arith)) (all_of q l z (λ i k. h (suc i) (omega arith)))

  -- some element passes: it stands at a place
  pub any_at : (q : A → Bool) (l : List A) (z : A) → any? q l ≡ true → (i : ℕ) × (i < length l) × (q (get_or l i z) ≡ true)
  any_at q [] z h = true-false true refl (sym h)
  any_at q (x ∷ l) z h = go (q x) refl h (λ k. any_at q l z k)
    where
      go : (b : Bool) → q x ≡ b → (b || any? q l) ≡ true → (any? q l ≡ true → (i : ℕ) × (i < length l) × (q (get_or l i z) ≡ true)) → (i : ℕ) × (i < length (x ∷ l)) × (q (get_or (x ∷ l) i z) ≡ true)
      go true e h f = (0, omega arith, e)
      go false e h f = let r = f h in (suc r.0, omega (arith, r.1), r.2)

  pub any_of : (q : A → Bool) (l : List A) (i : ℕ) (z : A) → i < length l → q (get_or l i z) ≡ true → any? q l ≡ true
  any_of q [] i z h k = absurd (omega arith)
  any_of q (x ∷ l) zero z h k = or_left (q x) (any? q l) k
  any_of q (x ∷ l) (suc i) z h k = or_right (q x) (any? q l) (any_of q l i z (omega arith) k)

  -- two elements of a list each of which passes a test with every later one
  pub pairs-at : (q : A → A → Bool) (l : List A) (k j : ℕ) (z : A) → pairwise q l ≡ true → k < j → j < length l → q (get_or l k z) (get_or l j z) ≡ true
  pairs-at q [] k j z h a b = absurd (omega arith)
  pairs-at q (x ∷ l) k zero z h a b = absurd (omega arith)
  pairs-at q (x ∷ l) zero (suc j) z h a b = all-at (q x) l j z (both_left (all? (q x) l) _ h) (omega arith)
  pairs-at q (x ∷ l) (suc k) (suc j) z h a b = pairs-at q l k j z (both_right (all? (q x) l) _ h) (omega arith) (omega arith)

-- sums
pub sum_same : (n : ℕ) (f g : ℕ → ℕ) → ((k : ℕ) → k < n → f k ≡ g k) → sum_below n f ≡ sum_below n g
unfolding sum_below
sum_same zero f g h = refl
sum_same (suc n) f g h = rw (h n (omega arith), sum_same n f g (λ k l. h k (omega arith)))

pub sum-le : (n : ℕ) (f g : ℕ → ℕ) → ((k : ℕ) → k < n → f k ≤ g k) → sum_below n f ≤ sum_below n g
unfolding sum_below
sum-le zero f g h = omega arith
sum-le (suc n) f g h = omega (arith, h n (omega arith), sum-le n f g (λ k l. h k (omega arith)))

pub sum-zero : (n : ℕ) → sum_below n (λ g. 0) ≡ 0
unfolding sum_below
sum-zero zero = refl
sum-zero (suc n) = omega (arith, sum-zero n)

-- one more at place t
pub sum_bump : (n t : ℕ) (f : ℕ → ℕ) → t < n → sum_below n (λ g. cond (eqb t g) (suc (f g)) (f g)) ≡ suc (sum_below n f)
unfolding sum_below
sum_bump zero t f h = absurd (omega arith)
sum_bump (suc n) t f h = go (eqb t n) refl (λ l. sum_bump n t f l)
  where
    go : (b : Bool) → eqb t n ≡ b → (t < n → sum_below n (λ g. cond (eqb t g) (suc (f g)) (f g)) ≡ suc (sum_below n f)) → cond b (suc (f n)) (f n) + sum_below n (λ g. cond (eqb t g) (suc (f g)) (f g)) ≡ suc (f n + sum_below n f)
    go true e i = rw (sum_same n (λ g. cond (eqb t g) (suc (f g)) (f g)) f (λ k l. rw (ne_eqb t k (λ q. let z : t ≡ n = eqb-true t n e in omega arith)))) (omega arith)
    go false e i = let z : (t ≡ n → ⊥) = eqb-false t n e in rw (i (omega arith)) (omega arith)
