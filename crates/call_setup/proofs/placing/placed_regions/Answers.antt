use Rattle.std.proofs.Common.{rules, tests}
use Rattle.rules.specs.Sizes.{region_places}
use Rattle.rules.specs.State.{trimmed_regions}
use Rattle.call_setup.specs.Kept.{kept_word}
use Rattle.call_setup.proofs.Placed.{made}
use Rattle.call_setup.proofs.placing.placed_regions.Goals as goal

pub returns : goal.returns
unfolding trimmed_regions
returns c = made _ _ (kept_word c.args.n c.args.words.now) (λ i y h k. search (rules, tests)) c.from_fn.result region_places c.from_fn.ensures.items
