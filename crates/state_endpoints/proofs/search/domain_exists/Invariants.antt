-- found says whether a place below i belongs.
use mathlib.Core.Path.{◌≡◌}
use Rattle.state_endpoints.specs.Search.{any_below, belongs}
use Rattle.state_endpoints.proofs.search.domain_exists.Given as goal

abbrev pub invariant-loop-i : goal.invariant-loop-i
invariant-loop-i l = l.found ≡ any_below l.i (belongs l.owners l.attached l.domains (record { 0 = l.guest }) (record { 0 = l.domain }))
