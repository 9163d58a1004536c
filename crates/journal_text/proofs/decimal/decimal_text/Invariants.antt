-- The loop's invariant: the digits of x and the byte that ends them are those of n, and then the bytes after place i.
use Rattle.journal_text.proofs.decimal.decimal_text.Given as goal
use Prim.Native.Nat.{◌+◌, ◌^◌, ◌<◌}
use mathlib.Core.Path.{◌≡◌}
use mathlib.Core.List.{[], ◌∷◌, ◌++◌}
use lib.ListN.{length, drop}
use Rattle.journal_text.specs.Text.{decimal}

abbrev pub invariant-loop-n : goal.invariant-loop-n
invariant-loop-n l = (l.i < 20) × (length l.bytes ≡ 21) × (l.n < 10 ^ (l.i + 1)) × (decimal l.x ++ (l.end ∷ []) ≡ decimal l.n ++ drop (l.i + 1) l.bytes)

abbrev pub decreases-loop-n : goal.decreases-loop-n
decreases-loop-n l = l.n
