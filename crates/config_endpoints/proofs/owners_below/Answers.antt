use Rattle.std.proofs.Common.{rules, tests}
use lib.Dec.{ltb}
use lib.ListN.{take}
use Rattle.std.proofs.lemmas.Iterator.{YieldsList-from_slice}
use Rattle.config_endpoints.proofs.Folds.{all-of-fold}
use Rattle.config_endpoints.proofs.owners_below.Goals as goal

pub returns : goal.returns
returns c =
    let a = c.args in
    all-of-fold (λ o. ltb o a.guests) _ c.fold.result c.fold.ensures.ran (YieldsList-from_slice (take a.n a.owners.now) cc) (λ y x b h k. search (rules, tests))
