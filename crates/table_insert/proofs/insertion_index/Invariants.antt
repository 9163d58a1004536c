use Rattle.table_insert.proofs.insertion_index.Given as goal
use Prim.Native.Nat.{◌≤◌, ◌+◌, ◌-◌}
use mathlib.Core.Path.{◌≡◌}
use lib.ListN.{take, drop}
use Rattle.rules.specs.Table.{records}
use Rattle.table_insert.specs.Inserted.{mapping_index}

abbrev pub invariant-loop-i : goal.invariant-loop-i
invariant-loop-i l = (l.i ≤ l.live) × (mapping_index l.r (take l.live (records l.t)) ≡ l.i + mapping_index l.r (drop l.i (take l.live (records l.t))))

abbrev pub decreases-loop-i : goal.decreases-loop-i
decreases-loop-i l = l.live - l.i
