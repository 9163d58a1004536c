use Rattle.std.proofs.Common.{rules, tests, arith}
use Prim.Native.Nat.{ℕ}
use mathlib.Core.Path.{◌∙◌}
use mathlib.Core.Bool.{Bool}
use Rattle.std.proofs.lemmas.Iterator.{YieldsList-from_range}
use Rattle.std.proofs.lemmas.Iterator.Search.{all_from_yields_List}
use Rattle.laws.proofs.Chains.{all-numbers}
use Rattle.rules.specs.Configuration.{region_at}
use Rattle.config_regions.specs.Places.{apart}
use Rattle.config_regions.proofs.is_fitting.Goals as goal

pub returns : goal.returns
returns c =
    let f = region_at c.args.words.now c.args.i in
    let j = c.args.j in
    let q : ℕ → Bool = λ k. apart (f k) c.region_of-q.result in
    rw (
      c.is_formed.ensures,
      all_from_yields_List q c.all.new.self _ c.all.result c.all.ensures.ran (YieldsList-from_range 0 j j (cc) (omega arith)) (λ x b h k. search (rules, tests)) ∙ all-numbers q j,
      c.region_of-q.ensures,
    )
