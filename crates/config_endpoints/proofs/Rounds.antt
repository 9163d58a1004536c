-- What one turn of a loop adds to a test.
use Prim.Native.Nat.{ℕ, ◌+◌, ◌<◌, ◌≤◌}
use mathlib.Core.Path.{◌≡◌, sym}
use mathlib.Core.List.{List, [], ◌∷◌}
use mathlib.Core.Bool.{Bool, ◌&&◌, and_assoc, and-true}
use lib.ListN.{length, get_or, take, drop, drop_of_length-le}
use lib.Seq.{length-take-le, get_or-take}
use Rattle.laws.specs.Lists.{all?, pairwise}
use Rattle.laws.proofs.Rounds.{drop-next}

-- over the first n elements of a list, of which what is left to look at is a suffix
module _ (xs : List ℕ) (n : ℕ) (fits : n ≤ length xs) (i : ℕ) (ok : Bool) where
  next : i < n → drop i (take n xs) ≡ get_or xs i 0 ∷ drop (i + 1) (take n xs)
  next h = rw (← get_or-take n xs i 0 h) (drop-next (take n xs) i 0 (rw (length-take-le n xs fits) h))

  none : n ≤ i → drop i (take n xs) ≡ []
  none h = drop_of_length-le (take n xs) {i = i} (rw (length-take-le n xs fits) h)

  pub pairs-round : (q : ℕ → ℕ → Bool) → i < n
      → (ok && pairwise q (drop i (take n xs))) ≡ ((ok && all? (q (get_or xs i 0)) (drop (i + 1) (take n xs))) && pairwise q (drop (i + 1) (take n xs)))
  pairs-round q h = rw (next h) (sym (and_assoc ok _ _))

  pub pairs-left : (q : ℕ → ℕ → Bool) → n ≤ i → (ok && pairwise q (drop i (take n xs))) ≡ ok
  pairs-left q h = rw (none h) (and-true ok)
