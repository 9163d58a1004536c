-- The sum of a list's first elements, in the words of the definitions.
use Prim.Native.Nat.{ℕ, zero, suc, ◌≤◌}
use mathlib.Core.Path.{◌≡◌, refl}
use mathlib.Core.List.{List}
use native.Mathlib.Omega.{arith}
use native.Mathlib.Numerals.{add-one}
use lib.ListN.{length, get_or, take}
use Rattle.std.specs.List.{sum}
use Rattle.std.proofs.lemmas.List.Sums.{sum_by_more}
use Rattle.laws.specs.Lists.{sum_below}

pub sum-first : (xs : List ℕ) (n : ℕ) → n ≤ length xs → sum (take n xs) ≡ sum_below n (λ i. get_or xs i 0)
unfolding sum_below
sum-first xs zero h = refl
sum-first xs (suc n) h = omega (arith, rw (add-one n) at (sum_by_more (λ x. x) xs n 0 (omega arith)), sum-first xs n (omega arith))
