use Prim.Native.Nat.{◌+◌, ◌-◌, ◌<◌}
use mathlib.Core.Path.{◌≡◌}
use native.Mathlib.Omega.{arith}
use Rattle.wire_numbers.proofs.Laws.{field_next, below_next, below-fits}
use Rattle.wire_numbers.proofs.fields.number_at.Goals as goal

pub loop-i-init : goal.loop-i-init
loop-i-init c =
    let n = c.args.n in
    let e : n - n ≡ 0 = omega arith in
    (rw e, rw e (omega arith))

pub overflow_mul-x : goal.overflow_mul-x
overflow_mul-x c =
    record { fits = omega (arith, below-fits c.loop-i.x c.args.n c.loop-i.i (c.loop-i.i - 1) (omega arith) (omega arith) c.loop-i.invariant.1) }

pub overflow_add-x : goal.overflow_add-x
overflow_add-x c =
    let a = c.args in
    let i = c.loop-i.i in
    record {
      fits =
          omega (
            arith,
            below-fits c.loop-i.x a.n i (i - 1) (omega arith) (omega arith) c.loop-i.invariant.1,
            c.type_inv.bytes (a.k + (i - 1)),
          );
    }

pub loop-i-preserved : goal.loop-i-preserved
loop-i-preserved c =
    let a = c.args in
    let x = c.loop-i.x in
    let i = c.loop-i.i in
    let b : c.from.result < 256 = omega (arith, c.type_inv.bytes (a.k + (i - 1))) in (
      rw (c.loop-i.invariant.0, c.from.ensures) (field_next a.bytes.now a.k a.n i (i - 1) (omega arith) (omega arith) (omega arith)),
      below_next x c.from.result a.n i (i - 1) (omega arith) (omega arith) b c.loop-i.invariant.1,
    )

pub returns : goal.returns
returns c =
    let a = c.args in
    let e : c.loop-i.i ≡ 0 = omega arith in
    let k : a.k + c.loop-i.i ≡ a.k = omega arith in
    let n : a.n - c.loop-i.i ≡ a.n = omega arith in
    (rw (k, n) at c.loop-i.invariant.0, rw n at c.loop-i.invariant.1)
