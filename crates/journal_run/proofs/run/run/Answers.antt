use mathlib.Core.Path.{◌∙◌}
use native.Mathlib.Omega.{arith}
use Rattle.journal_run.proofs.Playing.{reads_on, puts_on, goes_on, stops, fills}
use Rattle.journal_run.proofs.Running.{stays-ready}
use Rattle.journal_run.proofs.run.run.Goals as goal

pub overflow_add-read : goal.overflow_add-read
overflow_add-read c =
    let x = c.work_record-x in
    record { fits = omega (arith, reads_on c.loop-out.invariant.0 x.ensures (x.auto.out ∙ c.loop-out.auto.out)) }

pub overflow_add-printed : goal.overflow_add-printed
overflow_add-printed c =
    let x = c.work_record-x in
    record { fits = omega (arith, puts_on c.loop-out.invariant.0 x.ensures (x.auto.out ∙ c.loop-out.auto.out)) }

pub returns-then-x-eq0 : goal.returns-then-x-eq0
returns-then-x-eq0 c =
    let x = c.work_record-x in
    stops c.loop-out.invariant.0 x.ensures (x.auto.out ∙ c.loop-out.auto.out) (omega (arith, c.loop-out.auto.out)) c.if-x-eq0.true

pub loop-out-smaller : goal.loop-out-smaller
loop-out-smaller c =
    let x = c.work_record-x in
    omega (arith, reads_on c.loop-out.invariant.0 x.ensures (x.auto.out ∙ c.loop-out.auto.out))

pub loop-out-preserved : goal.loop-out-preserved
loop-out-preserved c =
    let x = c.work_record-x in
    let l = c.loop-out in (
      goes_on l.invariant.0 x.ensures (x.auto.out ∙ l.auto.out) (omega (arith, l.auto.out)) (omega arith),
      stays-ready l.s l.t _ l.invariant.1 x.ensures,
    )

pub returns : goal.returns
returns c = fills c.loop-out.invariant.0 (omega (arith, c.loop-out.auto.out))
