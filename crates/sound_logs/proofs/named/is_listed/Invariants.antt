use Rattle.sound_logs.proofs.named.is_listed.Given as goal
use Prim.Native.Nat.{◌≤◌, ◌-◌}
use mathlib.Core.Path.{◌≡◌}
use mathlib.Core.Bool.{◌||◌}
use lib.Dec.{eqb}
use lib.ListN.{drop}
use Rattle.laws.specs.Lists.{any?, pick_by}
use Rattle.rules.specs.Sizes.{max_endpoints}

abbrev pub invariant-loop-j : goal.invariant-loop-j
invariant-loop-j l =
    (l.j ≤ max_endpoints)
    × (any? (eqb l.number) (pick_by l.guest l.owners l.s.endpoints) ≡ (l.found || any? (eqb l.number) (pick_by l.guest (drop l.j l.owners) (drop l.j l.s.endpoints))))

abbrev pub decreases-loop-j : goal.decreases-loop-j
decreases-loop-j l = max_endpoints - l.j
