-- Laws of lists for a loop that puts an element in: the elements from its place on are carried up.
use Prim.Native.Nat.{ℕ, zero, suc, ◌+◌, ◌<◌, ◌≤◌}
use mathlib.Core.Path.{◌≡◌, refl, ap}
use mathlib.Core.List.{List, [], ◌∷◌, ◌++◌}
use native.Mathlib.Omega.{arith}
use native.Mathlib.Numerals.{add-one}
use lib.ListN.{length, get_or, take, drop, set}
use Rattle.table_insert.specs.Inserted.{insert_at}

module _ {A : Type 0} where
  -- an element x carried up from place i: the first n elements with x put in there, and what stands after the next place
  abbrev pub shifted : ℕ → A → ℕ → List A → List A
  shifted i x n l = insert_at i x (take n l) ++ drop (n + 1) l

  -- x takes the place of what stands there, which is carried on
  pub carry : (z x : A) (n i : ℕ) (l : List A) → i < n → n ≤ length l → shifted (i + 1) (get_or l i z) n (set l i x) ≡ shifted i x n l
  carry z x n i l h k = rw (add-one i, add-one n) (go n i l h k)
    where
      go : (n i : ℕ) (l : List A) → i < n → n ≤ length l → insert_at (suc i) (get_or l i z) (take n (set l i x)) ++ drop (suc n) (set l i x) ≡ insert_at i x (take n l) ++ drop (suc n) l
      go zero i l h k = absurd (omega arith)
      go (suc n) i [] h k = absurd (omega arith)
      go (suc n) zero (y ∷ l) h k = refl
      go (suc n) (suc i) (y ∷ l) h k = ap (λ (m : List A). y ∷ m) (go n i l (omega arith) (omega arith))

  -- and put down in the last place
  pub put-down : (x : A) (n : ℕ) (l : List A) → n < length l → set l n x ≡ shifted n x n l
  put-down x n l h = rw (add-one n) (go n l h)
    where
      go : (n : ℕ) (l : List A) → n < length l → set l n x ≡ insert_at n x (take n l) ++ drop (suc n) l
      go n [] h = absurd (omega arith)
      go zero (y ∷ l) h = refl
      go (suc n) (y ∷ l) h = ap (λ (m : List A). y ∷ m) (go n l (omega arith))
