use native.Mathlib.Omega.{arith}
use Prim.Native.Nat.{◌+◌}
use mathlib.Core.Path.{◌≡◌, ◌∙◌}
use lib.ListN.{get_or, set}
use Rattle.rules.specs.Table.{records}
use Rattle.table_record.specs.Records.{no_mapping}
use Rattle.table_insert.proofs.Carrying.{shifted, carry, put-down}
use Rattle.table_record.proofs.Stored.{same-records, wrote}
use Rattle.table_insert.proofs.shift_in.Goals as goal

pub loop-i-preserved : goal.loop-i-preserved
loop-i-preserved c =
    let a = c.args in
    let T = records c.loop-i.t in
    let i = c.loop-i.i in
    let x = c.loop-i.carried in
    let w = c.write in
    let v = wrote c.loop-i.t c.write.new.t (set T i x) w.ensures in
    let e : shifted (i + 1) (get_or T i no_mapping) a.live (set T i x) ≡ shifted i x a.live T = carry no_mapping x a.live i T (omega arith) (omega arith) in (
      omega arith,
      omega arith,
      omega arith,
      same-records c.write.new.t a.t.now (omega arith),
      rw (v.0, c.get-next.ensures) (e ∙ c.loop-i.invariant.4),
      v.1 ∙ c.loop-i.invariant.5,
    )

pub returns : goal.returns
returns c =
    let a = c.args in
    let T = records c.loop-i.t in
    let x = c.loop-i.carried in
    let e : c.loop-i.i ≡ a.live = omega arith in
    let f : set T a.live x ≡ shifted a.at a.r a.live (records a.t.now) =
    put-down x a.live T (omega arith) ∙ (rw e at c.loop-i.invariant.4) in
    c.write-2.ensures ∙ rw (f, c.loop-i.invariant.5)
