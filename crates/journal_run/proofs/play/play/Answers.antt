use mathlib.Core.Path.{sym, ◌∙◌}
use native.Mathlib.Omega.{arith}
use Rattle.laws.proofs.Tests.{both_left}
use Rattle.journal_session.proofs.Matching.{matched-in-room}
use Rattle.journal_run.proofs.Playing.{reads_on, puts_on, goes_on, stops, reads-rest, puts-rest, ends-rest, fills}
use Rattle.journal_run.proofs.Running.{runs}
use Rattle.journal_run.proofs.play.play.Goals as goal

pub overflow_add-result : goal.overflow_add-result
overflow_add-result c =
    let l = c.loop-out in
    let x = c.run-x in
    let e = both_left l.p.started _ (sym c.is_running.ensures.value ∙ c.if-is_running.true) in
    record { fits = omega (arith, reads-rest l.invariant (rw (runs l.p e) at x.ensures) x.auto.out) }

pub overflow_add-result-then-is_running : goal.overflow_add-result-then-is_running
overflow_add-result-then-is_running c =
    let l = c.loop-out in
    let x = c.run-x in
    let e = both_left l.p.started _ (sym c.is_running.ensures.value ∙ c.if-is_running.true) in
    record { fits = omega (arith, puts-rest l.invariant (rw (runs l.p e) at x.ensures) x.auto.out) }

pub returns-then-is_running : goal.returns-then-is_running
returns-then-is_running c =
    let l = c.loop-out in
    let x = c.run-x in
    let e = both_left l.p.started _ (sym c.is_running.ensures.value ∙ c.if-is_running.true) in
    rw e (ends-rest l.invariant (rw (runs l.p e) at x.ensures) x.auto.out)

pub overflow_add-read : goal.overflow_add-read
overflow_add-read c =
    let l = c.loop-out in
    let x = c.step_record-x in
    let m = matched-in-room x.new.p x.result l.p l.t _ x.new.t l.out x.new.out l.printed (omega (arith, l.invariant.same, l.invariant.fits)) x.ensures in
    record { fits = omega (arith, reads_on l.invariant m (x.auto.out ∙ l.auto.out)) }

pub overflow_add-printed : goal.overflow_add-printed
overflow_add-printed c =
    let l = c.loop-out in
    let x = c.step_record-x in
    let m = matched-in-room x.new.p x.result l.p l.t _ x.new.t l.out x.new.out l.printed (omega (arith, l.invariant.same, l.invariant.fits)) x.ensures in
    record { fits = omega (arith, puts_on l.invariant m (x.auto.out ∙ l.auto.out)) }

pub returns-then-x-eq0 : goal.returns-then-x-eq0
returns-then-x-eq0 c =
    let l = c.loop-out in
    let x = c.step_record-x in
    let m = matched-in-room x.new.p x.result l.p l.t _ x.new.t l.out x.new.out l.printed (omega (arith, l.invariant.same, l.invariant.fits)) x.ensures in
    stops l.invariant m (x.auto.out ∙ l.auto.out) (omega (arith, l.auto.out)) c.if-x-eq0.true

pub loop-out-smaller : goal.loop-out-smaller
loop-out-smaller c =
    let l = c.loop-out in
    let x = c.step_record-x in
    let m = matched-in-room x.new.p x.result l.p l.t _ x.new.t l.out x.new.out l.printed (omega (arith, l.invariant.same, l.invariant.fits)) x.ensures in
    omega (arith, reads_on l.invariant m (x.auto.out ∙ l.auto.out))

pub loop-out-preserved : goal.loop-out-preserved
loop-out-preserved c =
    let l = c.loop-out in
    let x = c.step_record-x in
    let m = matched-in-room x.new.p x.result l.p l.t _ x.new.t l.out x.new.out l.printed (omega (arith, l.invariant.same, l.invariant.fits)) x.ensures in
    goes_on l.invariant m (x.auto.out ∙ l.auto.out) (omega (arith, l.auto.out)) (omega arith)

pub returns : goal.returns
returns c = fills c.loop-out.invariant (omega (arith, c.loop-out.auto.out))
