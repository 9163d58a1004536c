use mathlib.Core.Path.{sym}
use Rattle.state_endpoints.specs.Search.{belongs}
use Rattle.state_endpoints.proofs.Searching.{any-zero, any-round}
use Rattle.state_endpoints.proofs.search.domain_exists.Goals as goal

pub loop-i-init : goal.loop-i-init
loop-i-init c =
    let a = c.args in
    sym (any-zero (belongs a.owners.now a.attached.now a.domains.now a.g a.d))

pub loop-i-preserved : goal.loop-i-preserved
loop-i-preserved c =
    let a = c.args in
    rw (any-round c.loop-i.i (belongs a.owners.now a.attached.now a.domains.now a.g a.d), ← c.loop-i.invariant)
