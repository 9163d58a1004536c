use native.Mathlib.Omega.{arith}
use mathlib.Core.Bool.{and-true}
use Rattle.laws.proofs.Rounds.{tested-none, tested-next, tested-all}
use Rattle.sound_regions.proofs.unused.unused_zero.Goals as goal

pub loop-i-init : goal.loop-i-init
loop-i-init c = tested-none _ _

pub loop-i-preserved : goal.loop-i-preserved
loop-i-preserved c = tested-next c.args.s.now.listed _ c.loop-i.ok c.rest_zero-ok.result c.loop-i.i c.loop-i.invariant (omega arith) c.rest_zero-ok.ensures

pub returns : goal.returns
returns c = rw (and-true, c.zero_from.ensures, tested-all c.args.s.now.listed _ c.loop-i.ok c.loop-i.i c.loop-i.invariant (omega arith))
