use Rattle.std.proofs.Common.{rules, tests, arith}
use Prim.Native.Nat.{ℕ}
use mathlib.Core.Path.{◌∙◌}
use mathlib.Core.Bool.{Bool}
use lib.ListN.{take}
use lib.Dec.{leb}
use Rattle.std.proofs.lemmas.Iterator.{YieldsList-from_slice, YieldsList-from_zip}
use Rattle.std.proofs.lemmas.Iterator.Search.{all_from_yields_List}
use Rattle.laws.proofs.Chains.{all-beside}
use Rattle.config_settings.proofs.windows_filled.Goals as goal

pub returns : goal.returns
returns c =
    let s = c.args.s in
    let q : ℕ × ℕ → Bool = λ p. leb p.0 p.1 in
    all_from_yields_List q c.all.new.self _ c.all.result c.all.ensures.ran (YieldsList-from_zip (YieldsList-from_slice (take c.args.n s.firsts) cc) (YieldsList-from_slice (take c.args.n s.lasts) cc)) (λ x b q k. search (rules, tests))
    ∙ all-beside q c.args.n s.firsts s.lasts 0 0 (omega arith) (omega arith)
