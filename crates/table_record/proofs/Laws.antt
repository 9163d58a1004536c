-- Laws of lists for loops: what is still to go of a list.
use Prim.Native.Nat.{ℕ, ◌+◌, ◌<◌, ◌≤◌}
use mathlib.Core.Path.{◌≡◌}
use mathlib.Core.Bool.{Bool, true, false}
use mathlib.Core.List.{List, [], ◌∷◌}
use native.Mathlib.Omega.{arith}
use native.Mathlib.Numerals.{add-one}
use lib.ListN.{length, get_or, take, drop, length-take, drop_of_length-le}
use lib.Seq.{drop-cons, get_or-take}
use Rattle.laws.specs.Lists.{keep}

module _ {A : Type 0} where
  -- what is to go at place i of the first n elements: that element, then what is to go at the next place
  pub to-go : (z : A) (l : List A) (n i : ℕ) → i < length (take n l) → drop i (take n l) ≡ get_or l i z ∷ drop (i + 1) (take n l)
  to-go z l n i h =
      let k : i < n = omega (arith, length-take n l) in
      rw (add-one, ← get_or-take n l i z k) (drop-cons (take n l) i z h)

  pub gone : (l : List A) (n i : ℕ) → length (take n l) ≤ i → drop i (take n l) ≡ []
  gone l n i h = drop_of_length-le (take n l) {i = i} h

-- what a test of the element at place i says of what is to go
module _ {A : Type 0} (q : A → Bool) (z : A) (l : List A) (n i : ℕ) (h : i < length (take n l)) where
  pub keep-yes : q (get_or l i z) ≡ true → keep q (drop i (take n l)) ≡ get_or l i z ∷ keep q (drop (i + 1) (take n l))
  keep-yes e = rw (to-go z l n i h, e)

  pub keep-no : q (get_or l i z) ≡ false → keep q (drop i (take n l)) ≡ keep q (drop (i + 1) (take n l))
  keep-no e = rw (to-go z l n i h, e)
