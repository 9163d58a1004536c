use native.Mathlib.Omega.{arith}
use Prim.Native.Nat.{◌%◌, ◌^◌, ◌<◌}
use mathlib.Core.Path.{◌≡◌, ap}
use mathlib.Core.Bool.{Bool, ◌&&◌}
use lib.Dec.{eqb}
use lib.Count.{count_trailing_zeros}
use Rattle.rules.specs.Handlers.{granularity}
use Rattle.map_steps.proofs.Addresses.{trailing_lt, one_shl, power-above, next-aligned, no-bit}
use Rattle.map_steps.proofs.form.aligned.Goals as goal

pub returns-then-mask-eq0 : goal.returns-then-mask-eq0
returns-then-mask-eq0 c =
    let a = c.args in
    let m : a.mask ≡ 0 = c.if-mask-eq0.true in
    rw m (no-bit a.start a.phys a.end c.ranges.start.fits c.ranges.phys.fits c.ranges.end.fits)

-- a mask that is not zero has a lowest bit
pub returns : goal.returns
unfolding granularity
returns c =
    let a = c.args in
    let k = count_trailing_zeros 64 a.mask in
    let h : k < 64 = trailing_lt 64 a.mask (omega arith) c.ranges.mask.fits in
    rw (one_shl k h) (ap (λ (b : Bool). eqb (a.start % 2 ^ k) 0 && (eqb (a.phys % 2 ^ k) 0 && b)) (next-aligned a.end (2 ^ k) (power-above k)))
