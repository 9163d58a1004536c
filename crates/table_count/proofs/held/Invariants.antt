use Rattle.table_count.proofs.held.Given as goal
use Prim.Native.Nat.{◌≤◌, ◌+◌, ◌-◌}
use mathlib.Core.Path.{◌≡◌}
use lib.ListN.{length, take, drop}
use Rattle.rules.specs.Table.{records}
use Rattle.rules.specs.Guests.{records_of}

abbrev pub invariant-loop-i : goal.invariant-loop-i
invariant-loop-i l =
    (l.i ≤ l.n) × (l.count ≤ l.i) × (l.count + length (records_of l.g (drop l.i (take l.live (records l.t)))) ≡ length (records_of l.g (take l.live (records l.t))))

abbrev pub decreases-loop-i : goal.decreases-loop-i
decreases-loop-i l = l.n - l.i
