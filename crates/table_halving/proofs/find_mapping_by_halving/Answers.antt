use native.Mathlib.Omega.{arith}
use mathlib.Core.Path.{ap, ◌∙◌}
use lib.ListN.{length, take, length-take}
use Rattle.rules.specs.Table.{records}
use Rattle.table_lookup.specs.Outcomes.{found_of}
use Rattle.table_halving.specs.Outcomes.{option_of}
use Rattle.table_halving.specs.Lookup.{flagged, passing, covering, looked_up}
use Rattle.table_halving.proofs.Halved.{looked-up}
use Rattle.table_halving.proofs.Outcomes.{option-found, reads-bits}
use Rattle.table_halving.proofs.find_mapping_by_halving.Goals as goal

pub returns-clause-found_value : goal.returns-clause-found_value
unfolding looked_up
returns-clause-found_value c =
    let a = c.args in
    let l = take a.live (records a.t.now) in
    c.if_flagged-found.ensures ∙ ap (λ o. found_of (passing (flagged a.a.kind) o)) (ap option_of c.find_covering-covering.ensures.found_value ∙ option-found (covering a.key a.a.address l))

pub returns-clause-found_in_order : goal.returns-clause-found_in_order
returns-clause-found_in_order c =
    let a = c.args in
    λ o. returns-clause-found_value c ∙ ap found_of (looked-up a.key a.a (take a.live (records a.t.now)) o)

pub returns-clause-reads_bound : goal.returns-clause-reads_bound
returns-clause-reads_bound c =
    let l = take c.args.live (records c.args.t.now) in
    λ h. omega (arith, c.find_covering-covering.ensures.reads_value, reads-bits 11 (length l) (omega (arith, h, length-take c.args.live (records c.args.t.now))))
