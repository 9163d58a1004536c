use Rattle.table_remove.proofs.close_up.Given as goal
use Prim.Native.Nat.{◌≤◌, ◌-◌}
use mathlib.Core.Path.{◌≡◌}
use mathlib.Core.Bool.{not}
use mathlib.Core.List.{◌++◌}
use lib.ListN.{length, take, drop}
use Rattle.laws.specs.Lists.{keep}
use Rattle.rules.specs.Table.{records}
use Rattle.table_record.specs.Records.{spare}
use Rattle.table_remove.specs.Removed.{within}

abbrev pub invariant-loop-i : goal.invariant-loop-i
invariant-loop-i l =
    (l.kept ≤ l.i) × (l.i ≤ l.n) × (length l.t ≡ length l.initial.t) × (length (records l.t) ≡ length (records l.initial.t))
    × (take l.kept (records l.t) ++ keep (λ r. not (within l.low l.high l.a l.b r)) (drop l.i (take l.n (records l.t))) ≡ keep (λ r. not (within l.low l.high l.a l.b r)) (take l.n (records l.initial.t)))
    × (drop l.n (records l.t) ≡ drop l.n (records l.initial.t)) × (spare l.t ≡ spare l.initial.t)

abbrev pub decreases-loop-i : goal.decreases-loop-i
decreases-loop-i l = l.n - l.i
