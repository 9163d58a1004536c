use native.Mathlib.Omega.{arith}
use mathlib.Core.Path.{refl, sym, ◌∙◌}
use Rattle.rules.specs.Sound.{zero_from}
use Rattle.sound_zeros.proofs.Passed.{zeros-on, zeros-end}
use Rattle.sound_zeros.proofs.zero_from.Goals as goal

pub loop-i-preserved : goal.loop-i-preserved
loop-i-preserved c = c.loop-i.invariant ∙ zeros-on c.args.x.now c.loop-i.bits c.loop-i.i (omega arith)

pub returns : goal.returns
unfolding zero_from
returns c = sym (c.loop-i.invariant ∙ zeros-end c.args.x.now c.loop-i.bits c.loop-i.i (omega arith))

pub loop-i-init : goal.loop-i-init
loop-i-init c =
    refl
