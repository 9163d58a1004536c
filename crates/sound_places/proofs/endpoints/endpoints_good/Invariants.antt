use Rattle.sound_places.proofs.endpoints.endpoints_good.Given as goal
use Prim.Native.Nat.{◌-◌}
use Rattle.laws.proofs.Rounds.{Tested}
use Rattle.rules.specs.Sizes.{max_endpoints}
use Rattle.sound_places.specs.Places.{endpoint_place}

abbrev pub invariant-loop-i : goal.invariant-loop-i
invariant-loop-i l = Tested max_endpoints (endpoint_place l.s) l.ok l.i

abbrev pub decreases-loop-i : goal.decreases-loop-i
decreases-loop-i l = max_endpoints - l.i
