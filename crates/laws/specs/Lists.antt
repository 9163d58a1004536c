-- The tests and lists that the definitions are written with.
use Rattle.std.specs.Prelude.{ℕ, zero, suc, ◌+◌, Bool, true, false, cond, ◌&&◌, ◌||◌, List, [], ◌∷◌, eqb, get_or}
use Rattle.std.proofs.Math.Option.{Option, some, none}

-- every element passes the test
abbrev pub all? : {A : Type 0} → (A → Bool) → List A → Bool
all? q [] = true
all? q (x ∷ l) = q x && all? q l

-- some element passes the test
abbrev pub any? : {A : Type 0} → (A → Bool) → List A → Bool
any? q [] = false
any? q (x ∷ l) = q x || any? q l

-- every test of a list passes
abbrev pub every? : List Bool → Bool
every? [] = true
every? (b ∷ l) = b && every? l

-- the elements that pass the test, in order
abbrev pub keep : {A : Type 0} → (A → Bool) → List A → List A
keep q [] = []
keep q (x ∷ l) = cond (q x) (x ∷ keep q l) (keep q l)

-- the first element that passes the test
abbrev pub find : {A : Type 0} → (A → Bool) → List A → Option A
find q [] = none
find q (x ∷ l) = cond (q x) (some x) (find q l)

-- what the first step that fails answers, where steps are tests with an answer each; none where no test is true
abbrev pub first_failing : {A : Type 0} → List (Bool × A) → Option A
first_failing [] = none
first_failing (s ∷ l) = cond s.0 (some s.1) (first_failing l)

-- each element passes the test with every later one
abbrev pub pairwise : {A : Type 0} → (A → A → Bool) → List A → Bool
pairwise q [] = true
pairwise q (x ∷ l) = all? (q x) l && pairwise q l

-- every number below n passes the test
unfoldable pub below : ℕ → (ℕ → Bool) → Bool
below zero q = true
below (suc n) q = q n && below n q

-- the sum of f over the numbers below n
unfoldable pub sum_below : ℕ → (ℕ → ℕ) → ℕ
sum_below zero f = 0
sum_below (suc n) f = f n + sum_below n f

-- f k, f (k + 1), .., n values of them
unfoldable pub tab_from : {A : Type 0} → ℕ → ℕ → (ℕ → A) → List A
tab_from k zero f = []
tab_from k (suc n) f = f k ∷ tab_from (suc k) n f

-- f 0, f 1, .., f (n - 1)
abbrev pub tab : {A : Type 0} → ℕ → (ℕ → A) → List A
tab n f = tab_from 0 n f

-- the first n elements, with z where the list has ended
abbrev pub pad : {A : Type 0} → ℕ → A → List A → List A
pad n z l = tab n (λ i. get_or l i z)

-- of a list whose elements have owners, in a list beside it: the elements of owner g, in order
abbrev pub pick_by : {A : Type 0} → ℕ → List ℕ → List A → List A
pick_by g [] l = []
pick_by g (o ∷ os) [] = []
pick_by g (o ∷ os) (a ∷ l) = cond (eqb o g) (a ∷ pick_by g os l) (pick_by g os l)

-- the first element, or a where there is none
abbrev pub head_or : {A : Type 0} → A → List A → A
head_or a [] = a
head_or a (x ∷ l) = x

-- all but the first element
abbrev pub rest : {A : Type 0} → List A → List A
rest [] = []
rest (x ∷ l) = l

-- a list with the elements of owner g replaced, in order, by those of p
abbrev pub weave_by : {A : Type 0} → ℕ → List ℕ → List A → List A → List A
weave_by g [] l p = l
weave_by g (o ∷ os) [] p = []
weave_by g (o ∷ os) (a ∷ l) p = cond (eqb o g) (head_or a p ∷ weave_by g os l (rest p)) (a ∷ weave_by g os l p)
