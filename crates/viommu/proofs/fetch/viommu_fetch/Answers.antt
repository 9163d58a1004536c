use borrow.Author.Rules.{rules}
use Rattle.viommu.proofs.Results.{of-fetch}
use Rattle.viommu.proofs.fetch.viommu_fetch.Goals as goal

pub returns : goal.returns
returns c =
    let told = of-fetch c.fetch-answer.ensures c.values_of-values.ensures in
    record { number_value = told.0; t_value = told.1 }
