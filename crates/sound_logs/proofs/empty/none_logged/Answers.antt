use native.Mathlib.Omega.{arith}
use mathlib.Core.Path.{refl}
use Rattle.laws.proofs.Rounds.{tested-none, tested-next}
use Rattle.sound_logs.proofs.empty.none_logged.Goals as goal

pub loop-count-preserved : goal.loop-count-preserved
loop-count-preserved c = let l = c.loop-count in tested-next _ _ l.ok _ l.count-index l.invariant (omega arith) refl

pub loop-count-init : goal.loop-count-init
loop-count-init c =
    tested-none _ _
