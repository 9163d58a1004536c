use native.Mathlib.Omega.{arith}
use Rattle.laws.proofs.Rounds.{tested-none, tested-next}
use Rattle.rules.specs.Sizes.{max_guests}
use Rattle.sound_places.proofs.guests.guests_good.Goals as goal

pub loop-g-preserved : goal.loop-g-preserved
loop-g-preserved c =
    let l = c.loop-g in
    tested-next max_guests _ l.ok c.guest_good-ok.result l.g l.invariant (omega arith) c.guest_good-ok.ensures

pub loop-g-init : goal.loop-g-init
loop-g-init c =
    tested-none max_guests _
