use Rattle.call_setup.proofs.Started.{good-differ, good-all}
use Rattle.call_setup.proofs.is_good.Goals as goal

pub returns-then-n-owners : goal.returns-then-n-owners
returns-then-n-owners c =
    let a = c.args in
    good-differ a.s a.endpoints.now a.owners.now a.regions.now c.if-n-owners.true

pub returns : goal.returns
returns c =
    let z = c.good_regions-reserved in
    let y = c.good_lists-lists in
    let x = c.good_settings-set in
    let a = c.args in
    good-all a.s a.endpoints.now a.owners.now a.regions.now c.if-n-owners.false x.result y.result z.result x.ensures y.ensures z.ensures
