use Rattle.table_insert.proofs.shift_in.Given as goal
use Prim.Native.Nat.{◌≤◌, ◌-◌}
use mathlib.Core.Path.{◌≡◌}
use lib.ListN.{length}
use Rattle.rules.specs.Table.{records}
use Rattle.table_record.specs.Records.{spare}
use Rattle.table_insert.proofs.Carrying.{shifted}

abbrev pub invariant-loop-i : goal.invariant-loop-i
invariant-loop-i l =
    (l.at ≤ l.i) × (l.i ≤ l.live) × (length l.t ≡ length l.initial.t) × (length (records l.t) ≡ length (records l.initial.t))
    × (shifted l.i l.carried l.live (records l.t) ≡ shifted l.at l.initial.carried l.live (records l.initial.t)) × (spare l.t ≡ spare l.initial.t)

abbrev pub decreases-loop-i : goal.decreases-loop-i
decreases-loop-i l = l.live - l.i
