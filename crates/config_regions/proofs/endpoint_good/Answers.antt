use Rattle.std.proofs.Common.{rules, tests, arith}
use mathlib.Core.Path.{◌∙◌}
use Rattle.std.proofs.lemmas.Iterator.{YieldsList-from_range}
use Rattle.std.proofs.lemmas.Iterator.Search.{all_from_yields_List}
use Rattle.laws.proofs.Chains.{all-numbers}
use Rattle.rules.specs.Configuration.{region_count, region_at}
use Rattle.config_regions.specs.Places.{fitting}
use Rattle.config_regions.proofs.Fitting.{fit-few, fit-many}
use Rattle.config_regions.proofs.endpoint_good.Goals as goal

pub returns-then-n-gt-MAX_REGIONS : goal.returns-then-n-gt-MAX_REGIONS
returns-then-n-gt-MAX_REGIONS c = let a = c.args in fit-many a.words.now a.i (omega arith)

pub returns : goal.returns
returns c =
    let w = c.args.words.now in
    let i = c.args.i in
    let n = region_count w i in
    all_from_yields_List (fitting (region_at w i)) c.all.new.self _ c.all.result c.all.ensures.ran (YieldsList-from_range 0 n n (cc) (omega arith)) (λ x b h k. search (rules, tests))
    ∙ all-numbers (fitting (region_at w i)) n
    ∙ fit-few w i (omega arith)
