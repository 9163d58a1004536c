use mathlib.Core.Path.{refl}
use Rattle.rules.specs.Handlers.{inside, of_key}
use Rattle.table_overlap.specs.Met.{met}
use Rattle.table_overlap.proofs.is_met.Goals as goal

pub returns : goal.returns
unfolding met inside of_key
returns c = refl
