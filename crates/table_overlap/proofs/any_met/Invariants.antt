use Rattle.table_overlap.proofs.any_met.Given as goal
use Prim.Native.Nat.{◌≤◌, ◌-◌}
use mathlib.Core.Path.{◌≡◌}
use mathlib.Core.Bool.{◌||◌}
use lib.ListN.{take, drop}
use Rattle.laws.specs.Lists.{any?}
use Rattle.rules.specs.Table.{records}
use Rattle.table_overlap.specs.Met.{met}

abbrev pub invariant-loop-i : goal.invariant-loop-i
invariant-loop-i l =
    (l.i ≤ l.n) × (any? (met l.key l.a l.b l.inner) (take l.live (records l.t)) ≡ (l.found || any? (met l.key l.a l.b l.inner) (drop l.i (take l.live (records l.t)))))

abbrev pub decreases-loop-i : goal.decreases-loop-i
decreases-loop-i l = l.n - l.i
