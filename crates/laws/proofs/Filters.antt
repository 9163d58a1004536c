-- Laws of all?, any?, keep, find and pairwise.
use Prim.Native.Nat.{ℕ, zero, suc, ◌+◌, ◌≤◌}
use mathlib.Core.Path.{◌≡◌, refl, sym, ap}
use mathlib.Core.Bool.{Bool, true, false, cond, not, ◌&&◌, ◌||◌}
use mathlib.Core.List.{List, [], ◌∷◌, ◌++◌}
use mathlib.Core.Option.{some, none}
use native.Mathlib.Omega.{arith}
use lib.ListN.{length, drop}
use Rattle.laws.specs.Lists.{all?, any?, keep, find, pairwise}
use Rattle.laws.proofs.Tests.{both, both_left, both_right, true-false}

module _ {A : Type 0} (q : A → Bool) where
  pub all-imp : (r : A → Bool) (l : List A) → ((x : A) → q x ≡ true → r x ≡ true) → all? q l ≡ true → all? r l ≡ true
  all-imp r [] f h = refl
  all-imp r (x ∷ l) f h = both (r x) (all? r l) (f x (both_left (q x) (all? q l) h)) (all-imp r l f (both_right (q x) (all? q l) h))

  pub all_append : (l m : List A) → all? q l ≡ true → all? q m ≡ true → all? q (l ++ m) ≡ true
  all_append [] m h k = k
  all_append (x ∷ l) m h k = both (q x) (all? q (l ++ m)) (both_left (q x) (all? q l) h) (all_append l m (both_right (q x) (all? q l) h) k)

  pub all_drop : (n : ℕ) (l : List A) → all? q l ≡ true → all? q (drop n l) ≡ true
  all_drop zero l h = h
  all_drop (suc n) [] h = refl
  all_drop (suc n) (x ∷ l) h = all_drop n l (both_right (q x) (all? q l) h)

  -- what passes q and is kept passes r, if r follows from q where it is kept
  pub all_keep : (k r : A → Bool) (l : List A) → ((x : A) → k x ≡ true → q x ≡ true → r x ≡ true) → all? q l ≡ true → all? r (keep k l) ≡ true
  all_keep k r [] f h = refl
  all_keep k r (x ∷ l) f h = go (k x) refl (all_keep k r l f (both_right (q x) (all? q l) h))
    where
      go : (b : Bool) → k x ≡ b → all? r (keep k l) ≡ true → all? r (cond b (x ∷ keep k l) (keep k l)) ≡ true
      go true e ih = both (r x) (all? r (keep k l)) (f x e (both_left (q x) (all? q l) h)) ih
      go false e ih = ih

  pub none_passes : (l : List A) → any? q l ≡ false → all? (λ x. not (q x)) l ≡ true
  none_passes [] h = refl
  none_passes (x ∷ l) h = go (q x) h (λ e. none_passes l e)
    where
      go : (b : Bool) → (b || any? q l) ≡ false → (any? q l ≡ false → all? (λ y. not (q y)) l ≡ true) → (not b && all? (λ y. not (q y)) l) ≡ true
      go true h f = true-false true refl h
      go false h f = f h

  pub length-keep : (l : List A) → length (keep q l) ≤ length l
  length-keep [] = omega arith
  length-keep (x ∷ l) = go (q x) (length-keep l)
    where
      go : (b : Bool) → length (keep q l) ≤ length l → length (cond b (x ∷ keep q l) (keep q l)) ≤ suc (length l)
      go true ih = omega arith
      go false ih = omega arith

  pub all-kept : (l : List A) → all? q (keep q l) ≡ true
  all-kept [] = refl
  all-kept (x ∷ l) = go (q x) refl (all-kept l)
    where
      go : (b : Bool) → q x ≡ b → all? q (keep q l) ≡ true → all? q (cond b (x ∷ keep q l) (keep q l)) ≡ true
      go true e ih = both (q x) (all? q (keep q l)) e ih
      go false e ih = ih

  pub keep_all : (l : List A) → all? q l ≡ true → keep q l ≡ l
  keep_all [] h = refl
  keep_all (x ∷ l) h = rw (both_left (q x) (all? q l) h) (ap (λ m. x ∷ m) (keep_all l (both_right (q x) (all? q l) h)))

  pub keep-none : (l : List A) → all? (λ x. not (q x)) l ≡ true → keep q l ≡ []
  keep-none [] h = refl
  keep-none (x ∷ l) h = go (q x) h (λ e. keep-none l e)
    where
      go : (b : Bool) → (not b && all? (λ y. not (q y)) l) ≡ true → (all? (λ y. not (q y)) l ≡ true → keep q l ≡ []) → cond b (x ∷ keep q l) (keep q l) ≡ []
      go true h f = true-false true refl (sym h)
      go false h f = f h

  -- two tests that agree keep the same
  pub keep_same : (r : A → Bool) (l : List A) → ((x : A) → q x ≡ r x) → keep q l ≡ keep r l
  keep_same r [] f = refl
  keep_same r (x ∷ l) f = rw (f x, keep_same r l f)

  pub any_append : (l m : List A) → any? q (l ++ m) ≡ (any? q l || any? q m)
  any_append [] m = refl
  any_append (x ∷ l) m = go (q x) (any_append l m)
    where
      go : (b : Bool) → any? q (l ++ m) ≡ (any? q l || any? q m) → (b || any? q (l ++ m)) ≡ ((b || any? q l) || any? q m)
      go true e = refl
      go false e = e

  pub any_same : (r : A → Bool) (l : List A) → ((x : A) → q x ≡ r x) → any? q l ≡ any? r l
  any_same r [] f = refl
  any_same r (x ∷ l) f = rw (f x, any_same r l f)

  pub keep_append : (l m : List A) → keep q (l ++ m) ≡ keep q l ++ keep q m
  keep_append [] m = refl
  keep_append (x ∷ l) m = rw (keep_append l m) (go (q x))
    where
      go : (b : Bool) → cond b (x ∷ (keep q l ++ keep q m)) (keep q l ++ keep q m) ≡ cond b (x ∷ keep q l) (keep q l) ++ keep q m
      go true = refl
      go false = refl

  -- a filter of a filter, where the second test decides together with the first
  pub keep-keep : (k m : A → Bool) (l : List A) → ((x : A) → (k x && q x) ≡ m x) → keep q (keep k l) ≡ keep m l
  keep-keep k m [] f = refl
  keep-keep k m (x ∷ l) f = rw (sym (f x)) (go (k x) (q x) refl (keep-keep k m l f))
    where
      go : (a b : Bool) → q x ≡ b → keep q (keep k l) ≡ keep m l → keep q (cond a (x ∷ keep k l) (keep k l)) ≡ cond (a && b) (x ∷ keep m l) (keep m l)
      go true b e i = rw (e, i)
      go false b e i = i

  -- those kept and those not are all
  pub split : (l : List A) → length (keep (λ x. not (q x)) l) + length (keep q l) ≡ length l
  split [] = refl
  split (x ∷ l) = go (q x) (split l)
    where
      go : (b : Bool) → length (keep (λ y. not (q y)) l) + length (keep q l) ≡ length l → length (cond (not b) (x ∷ keep (λ y. not (q y)) l) (keep (λ y. not (q y)) l)) + length (cond b (x ∷ keep q l) (keep q l)) ≡ suc (length l)
      go true i = omega arith
      go false i = omega arith

  -- what is found passes, and passes whatever all pass
  pub found : (t : A → Bool) (l : List A) (r : A) → find q l ≡ some r → all? t l ≡ true → (q r ≡ true) × (t r ≡ true)
  found t [] r e h = absurd (let z : ◌≡◌ {A = ℕ} 0 1 = cc in omega arith)
  found t (x ∷ l) r e h = go (q x) refl e (λ k. found t l r k (both_right (t x) (all? t l) h))
    where
      go : (b : Bool) → q x ≡ b → cond b (some x) (find q l) ≡ some r → (find q l ≡ some r → (q r ≡ true) × (t r ≡ true)) → (q r ≡ true) × (t r ≡ true)
      go true f e i = let s : x ≡ r = cc in (rw s at f, rw s at (both_left (t x) (all? t l) h))
      go false f e i = i e

  pub found-passes : (l : List A) (r : A) → find q l ≡ some r → q r ≡ true
  found-passes l r e = (found (λ x. true) l r e (trivial l)).0
    where
      trivial : (m : List A) → all? (λ (x : A). true) m ≡ true
      trivial [] = refl
      trivial (x ∷ m) = trivial m

  pub found-any : (l : List A) (r : A) → find q l ≡ some r → any? q l ≡ true
  found-any [] r e = absurd (let z : ◌≡◌ {A = ℕ} 0 1 = cc in omega arith)
  found-any (x ∷ l) r e = go (q x) e (λ k. found-any l r k)
    where
      go : (b : Bool) → cond b (some x) (find q l) ≡ some r → (find q l ≡ some r → any? q l ≡ true) → (b || any? q l) ≡ true
      go true e i = refl
      go false e i = i e

  pub found_none : (l : List A) → find q l ≡ none → any? q l ≡ false
  found_none [] e = refl
  found_none (x ∷ l) e = go (q x) e (λ k. found_none l k)
    where
      go : (b : Bool) → cond b (some x) (find q l) ≡ none → (find q l ≡ none → any? q l ≡ false) → (b || any? q l) ≡ false
      go true e i = absurd (let z : ◌≡◌ {A = ℕ} 0 1 = cc in omega arith)
      go false e i = i e

-- a test that follows from the filter adds nothing
module _ {A : Type 0} where
  pub any-keep : (k q : A → Bool) (l : List A) → ((x : A) → q x ≡ true → k x ≡ true) → any? q (keep k l) ≡ any? q l
  any-keep k q [] f = refl
  any-keep k q (x ∷ l) f = go (k x) refl (q x) refl (any-keep k q l f)
    where
      go : (b : Bool) → k x ≡ b → (c : Bool) → q x ≡ c → any? q (keep k l) ≡ any? q l → any? q (cond b (x ∷ keep k l) (keep k l)) ≡ (c || any? q l)
      go true e c d i = rw (d, i)
      go false e true d i = true-false (k x) (f x d) e
      go false e false d i = i

  pub find-keep : (k q : A → Bool) (l : List A) → ((x : A) → q x ≡ true → k x ≡ true) → find q (keep k l) ≡ find q l
  find-keep k q [] f = refl
  find-keep k q (x ∷ l) f = go (k x) refl (q x) refl (find-keep k q l f)
    where
      go : (b : Bool) → k x ≡ b → (c : Bool) → q x ≡ c → find q (keep k l) ≡ find q l → find q (cond b (x ∷ keep k l) (keep k l)) ≡ cond c (some x) (find q l)
      go true e c d i = rw (d, i)
      go false e true d i = true-false (k x) (f x d) e
      go false e false d i = i

-- pairs of a list
module _ {A : Type 0} (q : A → A → Bool) where
  pub pairwise-keep : (k : A → Bool) (l : List A) → pairwise q l ≡ true → pairwise q (keep k l) ≡ true
  pairwise-keep k [] h = refl
  pairwise-keep k (x ∷ l) h = go (k x) (pairwise-keep k l (both_right (all? (q x) l) (pairwise q l) h))
    where
      go : (b : Bool) → pairwise q (keep k l) ≡ true → pairwise q (cond b (x ∷ keep k l) (keep k l)) ≡ true
      go true ih = both (all? (q x) (keep k l)) (pairwise q (keep k l)) (all_keep (q x) k (q x) l (λ y e f. f) (both_left (all? (q x) l) (pairwise q l) h)) ih
      go false ih = ih

  -- two lists one after the other, where each of the first passes with all of the second
  pub pairwise_append : (l m : List A) → pairwise q l ≡ true → pairwise q m ≡ true → all? (λ x. all? (q x) m) l ≡ true → pairwise q (l ++ m) ≡ true
  pairwise_append [] m hl hm c = hm
  pairwise_append (x ∷ l) m hl hm c =
      both (all? (q x) (l ++ m)) (pairwise q (l ++ m))
      (all_append (q x) l m (both_left (all? (q x) l) (pairwise q l) hl) (both_left (all? (q x) m) (all? (λ y. all? (q y) m) l) c))
      (pairwise_append l m (both_right (all? (q x) l) (pairwise q l) hl) hm (both_right (all? (q x) m) (all? (λ y. all? (q y) m) l) c))
