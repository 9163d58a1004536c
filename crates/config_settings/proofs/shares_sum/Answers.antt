use Rattle.std.proofs.Common.{rules, tests, arith}
use Prim.Native.Nat.{◌+◌}
use mathlib.Core.Path.{◌∙◌}
use lib.ListN.{take}
use Rattle.std.proofs.lemmas.Iterator.{YieldsList-from_slice, YieldsList-from_map}
use Rattle.std.proofs.lemmas.Iterator.Adapters.{at_most_from_yields_List, fits_from_length, total_from_yields_List}
use Rattle.std.proofs.lemmas.List.Sums.{sum-map}
use Rattle.config_settings.proofs.Sums.{sum-first}
use Rattle.config_settings.proofs.shares_sum.Goals as goal

pub sum-requires-clause-fits : goal.sum-requires-clause-fits
sum-requires-clause-fits c =
    fits_from_length _ _ 4 _ (at_most_from_yields_List (YieldsList-from_slice (take c.args.n c.args.s.shares) cc) (omega arith)) c.map.ensures.closure (omega arith) (λ x r q k. search (rules, tests))

pub returns : goal.returns
returns c =
    let shares = take c.args.n c.args.s.shares in
    total_from_yields_List (λ a x. a + x) 0 c.sum.result c.sum.ensures.ran (YieldsList-from_map _ (λ x. x) (YieldsList-from_slice shares cc) c.map.ensures.closure (λ x r q k. search rules))
    ∙ sum-map (λ x. x) shares
    ∙ sum-first c.args.s.shares c.args.n (omega arith)
