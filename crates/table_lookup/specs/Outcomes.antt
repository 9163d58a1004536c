-- What a lookup gives.
use Rattle.std.proofs.Math.Option as logic
use Rattle.std.specs.Prelude.{Option, Some, None}
use Rattle.rules.specs.declared.Mapping.{Mapping}

-- a lookup's outcome as the code gives it
unfoldable pub found_of : logic.Option Mapping → Option Mapping
found_of logic.none = None
found_of (logic.some r) = Some r
