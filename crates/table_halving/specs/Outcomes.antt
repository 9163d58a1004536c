-- What a lookup gives.
use Rattle.std.proofs.Math.Option as logic
use Rattle.std.specs.Prelude.{Option, Some, None}
use Rattle.rules.specs.declared.Mapping.{Mapping}

-- a record, or none, from what the code gives
unfoldable pub option_of : Option Mapping → logic.Option Mapping
option_of None = logic.none
option_of (Some r) = logic.some r
