use Rattle.table_lookup.proofs.find_mapping.Given as goal
use Prim.Native.Nat.{◌≤◌}
use mathlib.Core.Path.{◌≡◌}
use lib.ListN.{take, drop}
use Rattle.laws.specs.Lists.{find}
use Rattle.rules.specs.Table.{records}
use Rattle.rules.specs.Access.{permits}

abbrev pub invariant-loop-i : goal.invariant-loop-i
invariant-loop-i l =
    (l.i ≤ l.n) × (find (permits l.key l.a) (take l.live (records l.t)) ≡ find (permits l.key l.a) (drop l.i (take l.live (records l.t))))
