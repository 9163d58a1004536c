-- What the test of a whole chain of iterators says, in the words of the definitions.
use Prim.Native.Nat.{ℕ, ◌≤◌, ◌<◌}
use mathlib.Core.Path.{◌≡◌, refl, sym, ◌∙◌}
use mathlib.Core.Bool.{Bool, ◌&&◌, and-true, and_assoc}
use mathlib.Core.List.{List, [], ◌∷◌}
use native.Mathlib.Omega.{arith}
use lib.ListN.{length, get_or, take}
use lib.Seq.{length-take-le, get_or-take}
use Rattle.std.specs.List.{list_all, fold, zip, range_with_len}
use Rattle.std.proofs.lemmas.List.FromFn.{length-range_with_len, get_or-range_with_len}
use Rattle.std.proofs.lemmas.Slice.Zip.{length-zip, get_or-zip}
use Rattle.laws.specs.Lists.{all?, below}
use Rattle.laws.proofs.Tests.{same_test}
use Rattle.laws.proofs.Tables.{below_at, below_all, all-at, all_of}

module _ {A : Type 0} (q : A → Bool) where
  pub all-listed : (l : List A) → list_all q l ≡ all? q l
  all-listed [] = refl
  all-listed (x ∷ l) = rw (all-listed l)

  -- a fold that tests each element after it has failed too
  pub all-folded : (l : List A) (b : Bool) → fold (λ a x. a && q x) b l ≡ (b && all? q l)
  all-folded [] b = sym (and-true b)
  all-folded (x ∷ l) b = all-folded l (b && q x) ∙ and_assoc b (q x) (all? q l)

  -- a list of n elements, of which f says what stands at each place
  pub all-placed : (l : List A) (n : ℕ) (f : ℕ → A) (z : A) → length l ≡ n → ((i : ℕ) → i < n → get_or l i z ≡ f i) → list_all q l ≡ below n (λ i. q (f i))
  all-placed l n f z e h =
      all-listed l
      ∙ same_test _ _
      (λ t. below_all n (λ i. q (f i)) (λ i k. rw (h i k) at (all-at q l i z t (omega (arith, e)))))
      (λ t. all_of q l z (λ i k. let j : i < n = omega (arith, e) in rw (h i j) (below_at n (λ i. q (f i)) i t j)))

-- the numbers below n
pub all-numbers : (q : ℕ → Bool) (n : ℕ) → list_all q (range_with_len 0 n) ≡ below n q
all-numbers q n = all-placed q (range_with_len 0 n) n (λ i. i) 0 (length-range_with_len 0 n) (λ i k. get_or-range_with_len 0 n i 0 k ∙ omega arith)

-- the first n elements of two lists, side by side
pub all-beside : {A B : Type 0} (q : A × B → Bool) (n : ℕ) (l : List A) (m : List B) (y : A) (z : B) → n ≤ length l → n ≤ length m
    → list_all q (zip (take n l) (take n m)) ≡ below n (λ i. q (get_or l i y, get_or m i z))
all-beside q n l m y z a b =
    let c : length (take n l) ≡ n = length-take-le n l a in
    let d : length (take n m) ≡ n = length-take-le n m b in
    all-placed q _ n (λ i. (get_or l i y, get_or m i z)) (y, z) (length-zip (take n l) (take n m) ∙ rw (c, d) (omega arith))
    (λ i k. get_or-zip (take n l) (take n m) i (y, z) (rw c k) (rw d k) ∙ rw (get_or-take n l i y k, get_or-take n m i z k))
