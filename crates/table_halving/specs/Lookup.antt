-- The lookup by halving, for every table: on one in order it finds what the device's lookup finds.
use Rattle.std.specs.Prelude.{ℕ, Bool, cond, ◌&&◌, List, leb}
use Rattle.std.proofs.Math.Option.{Option, some, none}
use Rattle.rules.specs.declared.Access.{Access}
use Rattle.rules.specs.declared.Mapping.{Mapping}
use Rattle.rules.specs.Handlers.{of_key}
use Rattle.rules.specs.Access.{has_flag}
use Rattle.table_halving.specs.Halving.{last_record}

-- the record is of the key's domain and "covers the address"
unfoldable pub covers : ℕ → ℕ → Mapping → Bool
covers key address r = of_key key r && (leb r.start address && leb address r.end)

-- the record "has the matching flag"
abbrev pub flagged : ℕ → Mapping → Bool
flagged kind r = has_flag kind r.flags

-- a record, where it passes a test
unfoldable pub passing : (Mapping → Bool) → Option Mapping → Option Mapping
passing q none = none
passing q (some r) = cond (q r) (some r) none

-- the record that the search finds for an address of the key's domain, where it covers the address
unfoldable pub covering : ℕ → ℕ → List Mapping → Option Mapping
covering key address l = passing (covers key address) (last_record key address l)

-- the record by which an access of an endpoint in the key's domain goes through: the one that covers its address, where it has the flag
unfoldable pub looked_up : ℕ → Access → List Mapping → Option Mapping
looked_up key a l = passing (flagged a.kind) (covering key a.address l)
