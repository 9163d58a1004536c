use Prim.Native.Nat.{◌+◌, ◌-◌}
use mathlib.Core.Path.{◌≡◌, ◌∙◌}
use mathlib.Core.List.{append-nil}
use native.Mathlib.Omega.{arith}
use borrow.Rule.Slice.PartMut.{mid_len, Post-is}
use lib.ListN.{length-set}
use lib.Seq.{take_all}
use Rattle.wire_numbers.proofs.Laws.{put_next}
use Rattle.wire_numbers.proofs.placing.put_number.Goals as goal

pub loop-byte-init : goal.loop-byte-init
loop-byte-init c =
    let a = c.args in
    let e : a.n - 0 ≡ a.n = omega arith in
    (mid_len a.k (a.k + a.n) a.bytes.now c.requires ∙ omega arith, rw e)

pub loop-byte-preserved : goal.loop-byte-preserved
loop-byte-preserved c =
    let l = c.loop-byte in (
      simp length-set l.invariant.0,
      put_next l.byte-items c.args.n l.byte-index l.rest (omega arith) (omega arith) ∙ l.invariant.1,
    )

pub returns : goal.returns
returns c =
    let a = c.args in
    let l = c.loop-byte in
    let e : l.byte-index ≡ a.n = omega arith in
    let z : a.n - a.n ≡ 0 = omega arith in
    let f = rw (e, z, append-nil) at l.invariant.1 in
    rw (Post-is a.k (a.k + a.n) a.bytes.now (omega arith), ← f, take_all a.n l.byte-items (omega arith))
