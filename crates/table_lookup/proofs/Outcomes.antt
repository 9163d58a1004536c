-- Laws of a lookup's outcome.
use mathlib.Core.Path.{◌≡◌, refl}
use mathlib.Core.Option as logic
use Rattle.std.specs.Prelude.{Some, None}
use Rattle.rules.specs.declared.Mapping.{Mapping}
use Rattle.table_lookup.specs.Outcomes.{found_of}

-- the outcome of a lookup, from what the code gives
pub found_at : (o : logic.Option Mapping) (r : Mapping) → Some r ≡ found_of o → o ≡ logic.some r
unfolding found_of
found_at (logic.some s) r e = cc
found_at logic.none r e = cc

pub found_nothing : (o : logic.Option Mapping) → None ≡ found_of o → o ≡ logic.none
unfolding found_of
found_nothing logic.none e = refl
found_nothing (logic.some s) e = cc
