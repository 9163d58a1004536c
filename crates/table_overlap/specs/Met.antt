-- Which records of a domain stand in the way.
use Rattle.std.specs.Prelude.{ℕ, Bool, not, ◌&&◌, ◌||◌, leb}
use Rattle.rules.specs.declared.Mapping.{Mapping}
use Rattle.rules.specs.Handlers.{of_key, inside}

-- a record of the key's domain that has an address in common with those from a to b; one that lies inside them counts only
-- where `inner` says so
unfoldable pub met : ℕ → ℕ → ℕ → Bool → Mapping → Bool
met key a b inner r = (of_key key r && (leb r.start b && leb a r.end)) && (inner || not (inside key a b r))
