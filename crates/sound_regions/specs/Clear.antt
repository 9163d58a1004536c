-- The reserved regions of a state, endpoint by endpoint.
use Rattle.std.specs.Prelude.{ℕ, Bool, not, ◌&&◌, ◌||◌, List, leb, eqb, get_or, take}
use Rattle.laws.specs.Lists.{every?, below}
use Rattle.rules.specs.declared.Mapping.{Mapping}
use Rattle.rules.specs.declared.State.{State}
use Rattle.rules.specs.Sizes.{max_endpoints}
use Rattle.rules.specs.Table.{key_of, records}
use Rattle.rules.specs.Sound.{region_zeros}
use Rattle.state_regions.specs.Held.{held_regions}
use Rattle.table_reserved.specs.Reserved.{regions_met}

-- the first word of the records of the domain of the endpoint at place i, where it is attached
abbrev pub key_at : State → ℕ → ℕ
key_at s i = key_of (record { 0 = get_or s.owners i 0 }) (record { 0 = get_or s.domains i 0 })

-- the endpoint at place i is not attached, or no record of its domain overlaps one of its regions
abbrev pub endpoint_clear : List Mapping → State → ℕ → Bool
endpoint_clear l s i = not (eqb (get_or s.attached i 0) 1) || not (regions_met (key_at s i) l (held_regions s.regions i))

-- the listed endpoints have places, unused region places are zero, and no record overlaps a region of an endpoint in its domain
unfoldable pub regions_good : State → List ℕ → Bool
regions_good s table =
    leb s.listed max_endpoints
    && (every? (region_zeros s)
    && below s.listed (endpoint_clear (take s.live (records table)) s))
