use Rattle.std.proofs.Common.{rules, tests, arith}
use Prim.Native.Nat.{ℕ}
use mathlib.Core.Path.{◌∙◌}
use mathlib.Core.Bool.{Bool, not}
use Rattle.std.proofs.lemmas.Iterator.{YieldsList-from_range}
use Rattle.std.proofs.lemmas.Iterator.Search.{all_from_yields_List}
use Rattle.laws.specs.Lists.{below}
use Rattle.laws.proofs.Chains.{all-numbers}
use Rattle.rules.specs.Configuration.{share_address}
use Rattle.config_settings.proofs.windows_apart.Goals as goal

pub returns : goal.returns
returns c =
    let n = c.args.n in
    let q : ℕ → Bool = λ g. below g (λ h. not (share_address c.args.s g h)) in
    all_from_yields_List q c.all.new.self _ c.all.result c.all.ensures.ran (YieldsList-from_range 0 n n (cc) (omega arith)) (λ x b q k. search (rules, tests))
    ∙ all-numbers q n
