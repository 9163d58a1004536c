use borrow.Author.Rules.{rules}
use Rattle.viommu.proofs.Results.{of-request}
use Rattle.viommu.proofs.request.viommu_request.Goals as goal

pub returns : goal.returns
returns c =
    let told = of-request c.request-answer.ensures c.values_of-values.ensures in
    record { number_value = told.0; t_after = told.1 }
