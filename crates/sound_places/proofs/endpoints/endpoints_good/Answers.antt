use native.Mathlib.Omega.{arith}
use Rattle.laws.proofs.Rounds.{tested-none, tested-next}
use Rattle.rules.specs.Sizes.{max_endpoints}
use Rattle.sound_places.proofs.endpoints.endpoints_good.Goals as goal

pub loop-i-preserved : goal.loop-i-preserved
loop-i-preserved c =
    let l = c.loop-i in
    tested-next max_endpoints _ l.ok c.endpoint_good-ok.result l.i l.invariant (omega arith) c.endpoint_good-ok.ensures

pub loop-i-init : goal.loop-i-init
loop-i-init c =
    tested-none max_endpoints _
