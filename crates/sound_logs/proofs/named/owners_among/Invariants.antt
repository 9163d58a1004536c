use Rattle.sound_logs.proofs.named.owners_among.Given as goal
use Prim.Native.Nat.{◌≤◌, ◌-◌}
use mathlib.Core.Path.{◌≡◌}
use lib.ListN.{length}
use Rattle.rules.specs.Sizes.{max_endpoints}
use Rattle.state_fields.proofs.Rewriting.{Written}
use Rattle.sound_logs.specs.Faults.{owner_among}

abbrev pub invariant-loop-j : goal.invariant-loop-j
invariant-loop-j l = (l.j ≤ max_endpoints) × (length l.initial.out ≡ max_endpoints) × Written (owner_among l.s.listed l.s.owners) l.initial.out l.j l.out

abbrev pub decreases-loop-j : goal.decreases-loop-j
decreases-loop-j l = max_endpoints - l.j
