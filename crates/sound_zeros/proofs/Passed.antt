-- Words that are zero from a place on: the bits of those passed, and what is to go.
use Prim.Native.Nat.{ℕ, ◌+◌, ◌<◌, ◌≤◌}
use mathlib.Core.Path.{◌≡◌, sym}
use mathlib.Core.Bool.{◌&&◌, and-true, and_assoc}
use mathlib.Core.List.{List}
use lib.Bits.{bit_or}
use lib.Dec.{eqb}
use lib.ListN.{length, get_or, drop, drop_of_length-le}
use Rattle.laws.specs.Lists.{all?}
use Rattle.laws.proofs.Tests.{eqb-sym}
use Rattle.laws.proofs.Bits.{or-zero}
use Rattle.laws.proofs.Rounds.{drop-next}

module _ (l : List ℕ) (bits i : ℕ) where
  pub zeros-on : i < length l → (eqb bits 0 && all? (eqb 0) (drop i l)) ≡ (eqb (bit_or bits (get_or l i 0)) 0 && all? (eqb 0) (drop (i + 1) l))
  zeros-on h = rw (drop-next l i 0 h, or-zero, eqb-sym (get_or l i 0) 0) (sym (and_assoc (eqb bits 0) (eqb 0 (get_or l i 0)) _))

  pub zeros-end : length l ≤ i → (eqb bits 0 && all? (eqb 0) (drop i l)) ≡ eqb bits 0
  zeros-end h = rw (drop_of_length-le l {i = i} h) (and-true (eqb bits 0))
