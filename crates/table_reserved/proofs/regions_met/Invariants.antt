-- met says of the regions below j whether a record is on one.
use Rattle.table_reserved.proofs.regions_met.Given as goal
use Prim.Native.Nat.{◌-◌}
use mathlib.Core.Path.{◌≡◌}
use lib.ListN.{take}
use Rattle.rules.specs.Table.{records}
use Rattle.state_regions.specs.Held.{held_count}
use Rattle.state_regions.proofs.Regions.{Asked}
use Rattle.table_reserved.specs.Reserved.{region_met}

abbrev pub invariant-loop-j : goal.invariant-loop-j
invariant-loop-j l = (l.n ≡ held_count l.regions l.i) × Asked (region_met l.key (take l.live (records l.t))) l.regions l.i l.met l.j

abbrev pub decreases-loop-j : goal.decreases-loop-j
decreases-loop-j l = l.n - l.j
