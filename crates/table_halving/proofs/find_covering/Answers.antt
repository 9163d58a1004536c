use mathlib.Core.Path.{ap, ◌∙◌}
use lib.ListN.{take}
use Rattle.rules.specs.Table.{records}
use Rattle.table_lookup.specs.Outcomes.{found_of}
use Rattle.table_halving.specs.Halving.{last_record}
use Rattle.table_halving.specs.Outcomes.{option_of}
use Rattle.table_halving.specs.Lookup.{covers, passing, covering}
use Rattle.table_halving.proofs.Outcomes.{option-found}
use Rattle.table_halving.proofs.find_covering.Goals as goal

pub returns-clause-found_value : goal.returns-clause-found_value
unfolding covering
returns-clause-found_value c =
    let a = c.args in
    let l = take a.live (records a.t.now) in
    c.if_covering-found.ensures ∙ ap (λ o. found_of (passing (covers a.key a.address) o)) (ap option_of c.last_record-last.ensures.found_value ∙ option-found (last_record a.key a.address l))
