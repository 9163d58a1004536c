use mathlib.Core.Path.{ap, ◌∙◌}
use borrow.Author.Rules.{rules}
use Rattle.rules.specs.declared.Values.{Values}
use Rattle.rules.specs.Answers.{number}
use Rattle.rules.specs.Device.{SetUp}
use Rattle.viommu.proofs.set_up.viommu_set_up.Goals as goal

pub returns : goal.returns
returns c =
    let e = c.set_up-given.ensures in
    (ap (λ (v : Values). v.number) c.values_of-values.ensures ∙ ap (λ (x : SetUp). number x.answer) e, ap (λ (x : SetUp). x.device) e)
