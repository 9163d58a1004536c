-- What was marked so far, and that it differs as long as nothing was met twice.
use Rattle.config_endpoints.proofs.scattered.Given as goal
use mathlib.Core.Path.{◌≡◌}
use mathlib.Core.Bool.{not, true, false}
use lib.Dec.{eqb}
use lib.ListN.{take}
use Rattle.laws.specs.Lists.{pairwise}
use Rattle.config_endpoints.proofs.Marking.{Marked}

abbrev pub invariant-loop-endpoint : goal.invariant-loop-endpoint
invariant-loop-endpoint l =
    Marked l.seen (take l.endpoint-index l.endpoint-items) × (l.repeated ≡ false → pairwise (λ a b. not (eqb a b)) (take l.endpoint-index l.endpoint-items) ≡ true)
