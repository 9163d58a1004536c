-- The reserved regions that the words of a state hold for an endpoint, as the code reads them off any words: no more than there are
-- places for. Where the configuration is good these are the endpoint's regions.
use Rattle.std.specs.Prelude.{ℕ, min, cond, List, ltb, get_or}
use Rattle.laws.specs.Lists.{tab}
use Rattle.rules.specs.declared.Region.{Region}
use Rattle.rules.specs.Sizes.{max_endpoints, max_regions}
use Rattle.rules.specs.Configuration.{region_count, region_at}

-- how many regions the endpoint at place i has
abbrev pub held_count : List ℕ → ℕ → ℕ
held_count words i = cond (ltb i max_endpoints) (min (region_count words i) max_regions) 0

-- its regions
unfoldable pub held_regions : List ℕ → ℕ → List Region
held_regions words i = tab (held_count words i) (region_at words i)

-- no region: every number is zero
abbrev pub no_region : Region
no_region = record { subtype = 0; start = 0; end = 0 }

-- region j of the endpoint at place i, or none
abbrev pub held_region : List ℕ → ℕ → ℕ → Region
held_region words i j = get_or (held_regions words i) j no_region
