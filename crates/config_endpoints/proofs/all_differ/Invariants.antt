-- ok, and what is still to be looked at, decide together.
use Rattle.config_endpoints.proofs.all_differ.Given as goal
use Prim.Native.Nat.{◌≤◌, ◌-◌}
use mathlib.Core.Path.{◌≡◌}
use mathlib.Core.Bool.{not, ◌&&◌}
use lib.Dec.{eqb}
use lib.ListN.{length, take, drop}
use Rattle.laws.specs.Lists.{pairwise}

abbrev pub invariant-loop-i : goal.invariant-loop-i
invariant-loop-i l =
    (l.i ≤ l.n) × (l.n ≤ length l.endpoints) × (pairwise (λ a b. not (eqb a b)) (take l.n l.endpoints) ≡ (l.ok && pairwise (λ a b. not (eqb a b)) (drop l.i (take l.n l.endpoints))))

abbrev pub decreases-loop-i : goal.decreases-loop-i
decreases-loop-i l = l.n - l.i
