use mathlib.Core.Path.{refl}
use Rattle.rules.specs.State.{zero_state}
use Rattle.call_setup.proofs.zero_state.Goals as goal

pub returns : goal.returns
unfolding zero_state
returns c = refl
