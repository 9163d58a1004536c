use native.Mathlib.Omega.{arith}
use Rattle.laws.proofs.Rounds.{tested-none, tested-next}
use Rattle.sound_logs.proofs.held.faults_of.Goals as goal

pub loop-j-preserved : goal.loop-j-preserved
loop-j-preserved c =
    let l = c.loop-j in
    tested-next _ _ l.ok c.fault_good-ok.result l.j l.invariant (omega arith) c.fault_good-ok.ensures

pub loop-j-init : goal.loop-j-init
loop-j-init c =
    tested-none _ _
