-- Laws of tests: Bool values, lists of tests, steps of which the first that fails wins.
use Prim.Native.Nat.{ℕ}
use mathlib.Core.Path.{◌≡◌, refl, sym}
use mathlib.Core.Bool.{Bool, true, false, cond, not, ◌&&◌, ◌||◌}
use mathlib.Core.List.{List, [], ◌∷◌, ◌++◌}
use mathlib.Core.Logic.{◌⊎◌, inl, inr}
use mathlib.Core.Option.{some, none}
use native.Mathlib.Omega.{arith}
use lib.Dec.{leb, ltb, eqb}
use borrow.Author.Tests.{leb-true, leb-false, eqb-true, eq-eqb, le-ltb, lt-ltb}
use Rattle.laws.specs.Lists.{all?, every?, first_failing}

-- cases on a test inside a term
pub either_way : {A : Type 0} (P : A → Type 0) (b : Bool) {x y : A} → (b ≡ true → P x) → (b ≡ false → P y) → P (cond b x y)
either_way P true f g = f refl
either_way P false f g = g refl

pub both_left : (a b : Bool) → (a && b) ≡ true → a ≡ true
both_left true b h = refl
both_left false b h = h

pub both_right : (a b : Bool) → (a && b) ≡ true → b ≡ true
both_right true b h = h
both_right false b h = cc

pub both : (a b : Bool) → a ≡ true → b ≡ true → (a && b) ≡ true
both a b ha hb = rw (ha, hb)

-- not both, and one or the other not
pub not-both : (a b : Bool) → not (a && b) ≡ (not a || not b)
not-both true b = refl
not-both false b = refl

-- one test of two numbers is false where the other is true
pub not-leb : (a b : ℕ) → not (leb a b) ≡ ltb b a
not-leb a b = go (leb a b) refl
  where
    go : (t : Bool) → leb a b ≡ t → not t ≡ ltb b a
    go true e = sym (le-ltb b a (leb-true a b e))
    go false e = sym (lt-ltb b a (leb-false a b e))

pub true-false : {P : Type 0} (b : Bool) → b ≡ true → b ≡ false → P
true-false b t f = absurd (let z : ◌≡◌ {A = ℕ} 0 1 = cc in omega arith)

pub or_cases : (a b : Bool) → (a || b) ≡ true → (a ≡ true) ⊎ (b ≡ true)
or_cases true b h = inl refl
or_cases false b h = inr h

pub or_left : (a b : Bool) → a ≡ true → (a || b) ≡ true
or_left a b h = rw h

pub or_right : (a b : Bool) → b ≡ true → (a || b) ≡ true
or_right true b h = refl
or_right false b h = h

pub nor : (a b : Bool) → (a || b) ≡ false → (a ≡ false) × (b ≡ false)
nor true b h = true-false true refl h
nor false b h = (refl, h)

pub or-none : (a b : Bool) → a ≡ false → b ≡ false → (a || b) ≡ false
or-none a b ha hb = rw (ha, hb)

pub and-not : (a b : Bool) → (a && b) ≡ false → a ≡ true → b ≡ false
and-not a b h e = let k : (true && b) ≡ false = rw e at h in k

-- two tests with one outcome in both directions
pub same_test : (a b : Bool) → (a ≡ true → b ≡ true) → (b ≡ true → a ≡ true) → a ≡ b
same_test true b f g = sym (f refl)
same_test false true f g = g refl
same_test false false f g = refl

-- numbers are equal either way round
pub eqb-sym : (a b : ℕ) → eqb a b ≡ eqb b a
eqb-sym a b = same_test (eqb a b) (eqb b a) (λ e. eq-eqb b a (sym (eqb-true a b e))) (λ e. eq-eqb a b (sym (eqb-true b a e)))

-- a list of tests that pass, as facts
abbrev pub Each : List Bool → Type 0
Each [] = Unit {0}
Each (b ∷ l) = (b ≡ true) × Each l

pub opened : (l : List Bool) → every? l ≡ true → Each l
opened [] h = tt
opened (b ∷ l) h = (both_left b (every? l) h, opened l (both_right b (every? l) h))

pub closed : (l : List Bool) → Each l → every? l ≡ true
closed [] h = refl
closed (b ∷ l) h = both b (every? l) h.0 (closed l h.1)

-- steps none of which fails, as facts
module _ {A : Type 0} where
  abbrev pub Clear : List (Bool × A) → Type 0
  Clear [] = Unit {0}
  Clear (s ∷ l) = (s.0 ≡ false) × Clear l

  pub cleared : (l : List (Bool × A)) → first_failing l ≡ none → Clear l
  cleared [] h = tt
  cleared (s ∷ l) h = go s.0 refl h (λ k. cleared l k)
    where
      go : (b : Bool) → s.0 ≡ b → cond b (some s.1) (first_failing l) ≡ none → (first_failing l ≡ none → Clear l) → (s.0 ≡ false) × Clear l
      go true e h f = absurd (let z : ◌≡◌ {A = ℕ} 0 1 = cc in omega arith)
      go false e h f = (e, f h)

  pub passed : (l : List (Bool × A)) → Clear l → first_failing l ≡ none
  passed [] h = refl
  passed (s ∷ l) h = rw h.0 (passed l h.1)

  pub clear-left : (l m : List (Bool × A)) → Clear (l ++ m) → Clear l
  clear-left [] m h = tt
  clear-left (s ∷ l) m h = (h.0, clear-left l m h.1)

  pub clear-right : (l m : List (Bool × A)) → Clear (l ++ m) → Clear m
  clear-right [] m h = h
  clear-right (s ∷ l) m h = clear-right l m h.1

  -- the answer of the first failing step passes what every step's answer passes
  pub failing-among : (q : A → Bool) (l : List (Bool × A)) (a : A) → first_failing l ≡ some a → all? (λ s. q s.1) l ≡ true → q a ≡ true
  failing-among q [] a e h = absurd (let z : ◌≡◌ {A = ℕ} 0 1 = cc in omega arith)
  failing-among q (s ∷ l) a e h = go s.0 e (λ k. failing-among q l a k (both_right (q s.1) _ h))
    where
      go : (b : Bool) → cond b (some s.1) (first_failing l) ≡ some a → (first_failing l ≡ some a → q a ≡ true) → q a ≡ true
      go true e i = let z : s.1 ≡ a = cc in rw (sym z) (both_left (q s.1) _ h)
      go false e i = i e

  -- an answer that none of the first steps gives is given by one of the rest, where the first are clear
  pub failing-late : (q : A → Bool) (l m : List (Bool × A)) (a : A) → first_failing (l ++ m) ≡ some a → all? (λ s. q s.1) l ≡ true → q a ≡ false → first_failing m ≡ some a
  failing-late q [] m a e h n = e
  failing-late q (s ∷ l) m a e h n = go s.0 e (λ k. failing-late q l m a k (both_right (q s.1) _ h) n)
    where
      go : (b : Bool) → cond b (some s.1) (first_failing (l ++ m)) ≡ some a → (first_failing (l ++ m) ≡ some a → first_failing m ≡ some a) → first_failing m ≡ some a
      go true e i = true-false (q a) (let z : s.1 ≡ a = cc in rw (sym z) (both_left (q s.1) _ h)) n
      go false e i = i e
