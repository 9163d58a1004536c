use Rattle.std.proofs.Common.{rules, tests, arith}
use Prim.Native.Nat.{ℕ}
use mathlib.Core.Path.{◌∙◌}
use mathlib.Core.Bool.{Bool, not, ◌&&◌}
use lib.Dec.{leb}
use lib.ListN.{get_or, take}
use Rattle.std.proofs.lemmas.Iterator.{YieldsList-from_slice, YieldsList-from_zip}
use Rattle.std.proofs.lemmas.Iterator.Search.{all_from_yields_List}
use Rattle.laws.proofs.Chains.{all-beside}
use Rattle.config_settings.proofs.window_apart.Goals as goal

pub returns : goal.returns
returns c =
    let s = c.args.s in
    let g = c.args.g.0 in
    let q : ℕ × ℕ → Bool = λ p. not (leb (get_or s.firsts g 0) p.1 && leb p.0 (get_or s.lasts g 0)) in
    all_from_yields_List q c.all.new.self _ c.all.result c.all.ensures.ran (YieldsList-from_zip (YieldsList-from_slice (take g s.firsts) cc) (YieldsList-from_slice (take g s.lasts) cc)) (λ x b q k. search (rules, tests))
    ∙ all-beside q g s.firsts s.lasts 0 0 (omega arith) (omega arith)
