-- Laws of taking out what one owner has and putting it back.
use Prim.Native.Nat.{ℕ, suc, ◌<◌}
use mathlib.Core.Path.{◌≡◌, refl, sym, ap}
use mathlib.Core.Bool.{Bool, true, false, cond}
use mathlib.Core.List.{List, [], ◌∷◌}
use native.Mathlib.Omega.{arith}
use lib.Dec.{ltb, eqb}
use lib.ListN.{length}
use borrow.Author.Tests.{ltb-true, eqb-true, eq-eqb, ne_eqb}
use Rattle.laws.specs.Lists.{all?, any?, pick_by, weave_by, head_or, rest}
use Rattle.laws.proofs.Tests.{both, both_left, both_right, true-false}

module _ {A : Type 0} where
  pub pick-weave : (g : ℕ) (os : List ℕ) (l p : List A) → length p ≡ length (pick_by g os l) → pick_by g os (weave_by g os l p) ≡ p
  pick-weave g [] l p e = nil p e
    where
      nil : (p : List A) → length p ≡ 0 → [] ≡ p
      nil [] e = refl
      nil (a ∷ p) e = absurd (omega arith)
  pick-weave g (o ∷ os) [] p e = nil p e
    where
      nil : (p : List A) → length p ≡ 0 → [] ≡ p
      nil [] e = refl
      nil (a ∷ p) e = absurd (omega arith)
  pick-weave g (o ∷ os) (a ∷ l) p e = go (eqb o g) refl p e (λ q h. pick-weave g os l q h)
    where
      go : (b : Bool) → eqb o g ≡ b → (p : List A) → length p ≡ length (cond b (a ∷ pick_by g os l) (pick_by g os l))
          → ((q : List A) → length q ≡ length (pick_by g os l) → pick_by g os (weave_by g os l q) ≡ q)
          → pick_by g (o ∷ os) (cond b (head_or a p ∷ weave_by g os l (rest p)) (a ∷ weave_by g os l p)) ≡ p
      go true h [] e ih = absurd (omega arith)
      go true h (x ∷ p) e ih = rw (h, ih p (omega arith))
      go false h p e ih = rw h (ih p e)

  pub pick-weave-other : (g h : ℕ) (os : List ℕ) (l p : List A) → (h ≡ g → ⊥) → pick_by h os (weave_by g os l p) ≡ pick_by h os l
  pick-weave-other g h [] l p n = refl
  pick-weave-other g h (o ∷ os) [] p n = refl
  pick-weave-other g h (o ∷ os) (a ∷ l) p n = go (eqb o g) refl (pick-weave-other g h os l p n) (pick-weave-other g h os l (rest p) n)
    where
      go : (b : Bool) → eqb o g ≡ b → pick_by h os (weave_by g os l p) ≡ pick_by h os l → pick_by h os (weave_by g os l (rest p)) ≡ pick_by h os l
          → pick_by h (o ∷ os) (cond b (head_or a p ∷ weave_by g os l (rest p)) (a ∷ weave_by g os l p)) ≡ cond (eqb o h) (a ∷ pick_by h os l) (pick_by h os l)
      go true e i1 i2 = rw (ne_eqb o h (λ q. n (cc (eqb-true o g e)))) i2
      go false e i1 i2 = rw i1

  -- put back unchanged, it changes nothing
  pub weave-pick : (g : ℕ) (os : List ℕ) (l : List A) → weave_by g os l (pick_by g os l) ≡ l
  weave-pick g [] l = refl
  weave-pick g (o ∷ os) [] = refl
  weave-pick g (o ∷ os) (a ∷ l) = go (eqb o g) (weave-pick g os l)
    where
      go : (b : Bool) → weave_by g os l (pick_by g os l) ≡ l → cond b (head_or a (cond b (a ∷ pick_by g os l) (pick_by g os l)) ∷ weave_by g os l (rest (cond b (a ∷ pick_by g os l) (pick_by g os l)))) (a ∷ weave_by g os l (cond b (a ∷ pick_by g os l) (pick_by g os l))) ≡ a ∷ l
      go true i = rw i
      go false i = rw i

  pub length-weave : (g : ℕ) (os : List ℕ) (l p : List A) → length (weave_by g os l p) ≡ length l
  length-weave g [] l p = refl
  length-weave g (o ∷ os) [] p = refl
  length-weave g (o ∷ os) (a ∷ l) p = go (eqb o g) (length-weave g os l p) (length-weave g os l (rest p))
    where
      go : (b : Bool) → length (weave_by g os l p) ≡ length l → length (weave_by g os l (rest p)) ≡ length l → length (cond b (head_or a p ∷ weave_by g os l (rest p)) (a ∷ weave_by g os l p)) ≡ suc (length l)
      go true i j = ap suc j
      go false i j = ap suc i

  pub all-pick_by : (q : A → Bool) (g : ℕ) (os : List ℕ) (l : List A) → all? q l ≡ true → all? q (pick_by g os l) ≡ true
  all-pick_by q g [] l h = refl
  all-pick_by q g (o ∷ os) [] h = refl
  all-pick_by q g (o ∷ os) (a ∷ l) h = go (eqb o g) (all-pick_by q g os l (both_right (q a) (all? q l) h))
    where
      go : (t : Bool) → all? q (pick_by g os l) ≡ true → all? q (cond t (a ∷ pick_by g os l) (pick_by g os l)) ≡ true
      go true i = both (q a) (all? q (pick_by g os l)) (both_left (q a) (all? q l) h) i
      go false i = i

  pub length-pick_by : {B : Type 0} (g : ℕ) (os : List ℕ) (l : List A) (m : List B) → length l ≡ length m → length (pick_by g os l) ≡ length (pick_by g os m)
  length-pick_by g [] l m e = refl
  length-pick_by g (o ∷ os) [] [] e = refl
  length-pick_by g (o ∷ os) [] (b ∷ m) e = absurd (omega arith)
  length-pick_by g (o ∷ os) (a ∷ l) [] e = absurd (omega arith)
  length-pick_by g (o ∷ os) (a ∷ l) (b ∷ m) e = go (eqb o g) (length-pick_by g os l m (omega arith))
    where
      go : (t : Bool) → length (pick_by g os l) ≡ length (pick_by g os m) → length (cond t (a ∷ pick_by g os l) (pick_by g os l)) ≡ length (cond t (b ∷ pick_by g os m) (pick_by g os m))
      go true i = ap suc i
      go false i = i

  -- what every owner's elements pass, all pass
  pub all-owners : (q : A → Bool) (n : ℕ) (os : List ℕ) (l : List A) → length l ≡ length os → all? (λ o. ltb o n) os ≡ true → ((g : ℕ) → g < n → all? q (pick_by g os l) ≡ true) → all? q l ≡ true
  all-owners q n [] [] e h f = refl
  all-owners q n [] (a ∷ l) e h f = absurd (omega arith)
  all-owners q n (o ∷ os) [] e h f = refl
  all-owners q n (o ∷ os) (a ∷ l) e h f =
      both (q a) (all? q l)
      (both_left (q a) (all? q (pick_by o os l)) (rw (eq-eqb o o refl) at (f o (ltb-true o n (both_left (ltb o n) _ h)))))
      (all-owners q n os l (omega arith) (both_right (ltb o n) _ h) (λ g m. go g (eqb o g) (f g m)))
    where
      go : (g : ℕ) (b : Bool) → all? q (cond b (a ∷ pick_by g os l) (pick_by g os l)) ≡ true → all? q (pick_by g os l) ≡ true
      go g true k = both_right (q a) _ k
      go g false k = k

  -- an owner that has an element is among the owners
  pub owner-among : (q : A → Bool) (n g : ℕ) (os : List ℕ) (l : List A) → all? (λ o. ltb o n) os ≡ true → any? q (pick_by g os l) ≡ true → g < n
  owner-among q n g [] l h k = true-false true refl (sym k)
  owner-among q n g (o ∷ os) [] h k = true-false true refl (sym k)
  owner-among q n g (o ∷ os) (a ∷ l) h k = go (eqb o g) refl k (λ i. owner-among q n g os l (both_right (ltb o n) _ h) i)
    where
      go : (b : Bool) → eqb o g ≡ b → any? q (cond b (a ∷ pick_by g os l) (pick_by g os l)) ≡ true → (any? q (pick_by g os l) ≡ true → g < n) → g < n
      go true e k i = rw (sym (eqb-true o g e)) (ltb-true o n (both_left (ltb o n) _ h))
      go false e k i = i k
