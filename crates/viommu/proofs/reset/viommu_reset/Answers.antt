use borrow.Author.Rules.{rules}
use Rattle.viommu.proofs.Results.{of-reset}
use Rattle.viommu.proofs.reset.viommu_reset.Goals as goal

pub returns : goal.returns
returns c = of-reset c.reset-answer.ensures c.values_of-values.ensures
