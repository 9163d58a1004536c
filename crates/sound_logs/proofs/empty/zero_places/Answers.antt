use native.Mathlib.Omega.{arith}
use Prim.Native.Nat.{◌+◌}
use mathlib.Core.Path.{refl}
use mathlib.Core.Bool.{◌&&◌}
use lib.Dec.{eqb}
use lib.ListN.{get_or}
use Rattle.laws.proofs.Rounds.{tested-none, tested-next}
use Rattle.rules.specs.Sound.{fault_zero}
use Rattle.rules.specs.State.{fault_at}
use Rattle.sound_logs.proofs.NoFaults.{zero-round}
use Rattle.sound_logs.proofs.empty.zero_places.Goals as goal

pub loop-j-preserved : goal.loop-j-preserved
loop-j-preserved c =
    let a = c.args in
    let s = a.s.now in
    let l = c.loop-j in
    let i = a.first + l.j in
    rw (c.from.ensures, zero-round (get_or s.reasons i 0) (get_or s.flags i 0) (get_or s.sources i 0) (get_or s.addresses i 0) l.narrow l.broad)
    (tested-next a.n (λ k. fault_zero (fault_at s (a.first + k))) (eqb l.narrow 0 && eqb l.broad 0) _ l.j l.invariant (omega arith) refl)

pub loop-j-init : goal.loop-j-init
loop-j-init c =
    tested-none _ _
