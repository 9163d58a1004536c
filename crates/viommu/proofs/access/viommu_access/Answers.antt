use borrow.Author.Rules.{rules}
use Rattle.viommu.proofs.Results.{of-access}
use Rattle.viommu.proofs.access.viommu_access.Goals as goal

pub returns : goal.returns
returns c = of-access c.access-answer.ensures c.values_of-values.ensures
