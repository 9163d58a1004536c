use Rattle.rules.specs.Sizes.{max_endpoints}
use Rattle.call_setup.proofs.Started.{zero-after}
use Rattle.call_setup.proofs.placed_endpoints.Goals as goal

pub returns : goal.returns
returns c = zero-after max_endpoints c.min-n.result c.args.endpoints.now c.copy_from_slice.new.self c.min-n.ensures c.copy_from_slice.ensures.after
