use Rattle.std.proofs.Common.{rules, tests, arith}
use Prim.Native.Nat.{ℕ, ◌*◌}
use mathlib.Core.Path.{◌≡◌, ◌∙◌}
use mathlib.Core.Bool.{Bool}
use lib.ListN.{length}
use Rattle.std.proofs.lemmas.Iterator.{YieldsList-from_range}
use Rattle.std.proofs.lemmas.Iterator.Search.{all_from_yields_List}
use Rattle.laws.specs.Lists.{every?}
use Rattle.laws.proofs.Chains.{all-numbers}
use Rattle.rules.specs.Sizes.{endpoint_region_words}
use Rattle.rules.specs.Configuration.{regions_at, region_tests}
use Rattle.config_regions.proofs.Fitting.{words-other, words-whole}
use Rattle.config_regions.proofs.good_regions.Goals as goal

pub returns-then-words-n : goal.returns-then-words-n
returns-then-words-n c = let a = c.args in words-other a.n a.words.now (λ e. c.if-words-n.true (omega (arith, e)))

pub returns-then-words-ne0 : goal.returns-then-words-ne0
returns-then-words-ne0 c = let a = c.args in words-other a.n a.words.now (λ e. c.if-words-ne0.true (omega (arith, e)))

pub returns : goal.returns
returns c =
    let n = c.args.n in
    let w = c.args.words.now in
    let whole : length w ≡ endpoint_region_words * n = omega (arith, c.if-words-ne0.false, c.if-words-n.false) in
    let q : ℕ → Bool = λ i. every? (region_tests (regions_at w i)) in
    all_from_yields_List q c.all.new.self _ c.all.result c.all.ensures.ran (YieldsList-from_range 0 n n (cc) (omega arith)) (λ x b h k. search (rules, tests))
    ∙ all-numbers q n
    ∙ words-whole n w whole
