use Rattle.sound_logs.proofs.empty.zero_places.Given as goal
use Prim.Native.Nat.{◌+◌, ◌-◌}
use mathlib.Core.Bool.{◌&&◌}
use lib.Dec.{eqb}
use Rattle.laws.proofs.Rounds.{Tested}
use Rattle.rules.specs.Sound.{fault_zero}
use Rattle.rules.specs.State.{fault_at}

abbrev pub invariant-loop-j : goal.invariant-loop-j
invariant-loop-j l =
    Tested l.n (λ k. fault_zero (fault_at l.s (l.first + k))) (eqb l.narrow 0 && eqb l.broad 0) l.j

abbrev pub decreases-loop-j : goal.decreases-loop-j
decreases-loop-j l = l.n - l.j
