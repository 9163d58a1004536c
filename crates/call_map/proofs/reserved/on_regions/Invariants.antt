-- found says whether a place below i belongs and has a region that the record overlaps.
use Rattle.call_map.proofs.reserved.on_regions.Given as goal
use Prim.Native.Nat.{ℕ}
use mathlib.Core.Path.{◌≡◌}
use mathlib.Core.Bool.{Bool, ◌&&◌}
use Rattle.laws.specs.Lists.{any?}
use Rattle.rules.specs.declared.Guest.{Guest}
use Rattle.rules.specs.declared.Domain.{Domain}
use Rattle.rules.specs.declared.State.{State}
use Rattle.rules.specs.Configuration.{meets}
use Rattle.state_regions.specs.Held.{held_regions}
use Rattle.state_endpoints.specs.Search.{any_below, belongs}

-- the endpoint at place i is in the domain and has a region that the addresses from a to b meet
abbrev pub barring : State → Guest → Domain → ℕ → ℕ → ℕ → Bool
barring s g d a b i = belongs s.owners s.attached s.domains g d i && any? (meets a b) (held_regions s.regions i)

abbrev pub invariant-loop-i : goal.invariant-loop-i
invariant-loop-i l = l.found ≡ any_below l.i (barring l.s (record { 0 = l.guest }) (record { 0 = l.domain }) l.a l.b)
