use Rattle.sound_zeros.proofs.zero_from.Given as goal
use Prim.Native.Nat.{◌-◌}
use mathlib.Core.Path.{◌≡◌}
use mathlib.Core.Bool.{◌&&◌}
use lib.Dec.{eqb}
use lib.ListN.{length, drop}
use Rattle.laws.specs.Lists.{all?}

abbrev pub invariant-loop-i : goal.invariant-loop-i
invariant-loop-i l = all? (eqb 0) (drop l.n l.x) ≡ (eqb l.bits 0 && all? (eqb 0) (drop l.i l.x))

abbrev pub decreases-loop-i : goal.decreases-loop-i
decreases-loop-i l = length l.x - l.i
