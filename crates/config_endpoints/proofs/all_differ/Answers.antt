use native.Mathlib.Omega.{arith}
use mathlib.Core.Path.{refl, sym, ◌∙◌}
use mathlib.Core.Bool.{not}
use lib.Dec.{eqb}
use Rattle.config_endpoints.proofs.Rounds.{pairs-round, pairs-left}
use Rattle.config_endpoints.proofs.all_differ.Goals as goal

pub loop-i-init : goal.loop-i-init
loop-i-init c = (omega arith, omega arith, refl)

pub loop-i-preserved : goal.loop-i-preserved
loop-i-preserved c =
    let l = c.loop-i in
    let a = c.args in
    let t = pairs-round a.endpoints.now a.n l.invariant.1 l.i l.ok (λ x y. not (eqb x y)) (omega arith) in
    (omega arith, l.invariant.1, l.invariant.2 ∙ rw (← c.not_later-ok.ensures) at t)

pub returns : goal.returns
returns c =
    let l = c.loop-i in
    let a = c.args in
    sym (l.invariant.2 ∙ pairs-left a.endpoints.now a.n l.invariant.1 l.i l.ok (λ x y. not (eqb x y)) (omega arith))
