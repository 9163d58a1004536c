use Rattle.std.proofs.Common.{rules, tests}
use Prim.Native.Nat.{◌+◌, ◌-◌}
use mathlib.Core.Path.{◌≡◌, ap, ◌∙◌}
use mathlib.Core.Bool.{not}
use lib.Dec.{eqb}
use lib.ListN.{take, drop, get_or}
use Rattle.std.proofs.lemmas.Iterator.{YieldsList-from_slice}
use Rattle.std.proofs.lemmas.Slice.{between_is}
use Rattle.laws.specs.Lists.{all?}
use Rattle.config_endpoints.proofs.Folds.{all-of-fold}
use Rattle.config_endpoints.proofs.not_later.Goals as goal

pub returns : goal.returns
returns c =
    let a = c.args in
    let E = a.endpoints.now in
    let k = a.i + 1 in
    let same : take (a.n - k) (drop k E) ≡ drop k (take a.n E) = between_is E k a.n in
    all-of-fold (λ e. not (eqb (get_or E a.i 0) e)) _ c.fold.result c.fold.ensures.ran (YieldsList-from_slice (take (a.n - k) (drop k E)) cc) (λ y x b h k. search (rules, tests))
    ∙ ap (all? (λ e. not (eqb (get_or E a.i 0) e))) same
