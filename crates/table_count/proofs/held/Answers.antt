use native.Mathlib.Omega.{arith}
use mathlib.Core.Path.{sym, ap, ◌∙◌}
use mathlib.Core.Bool.{Bool}
use lib.Dec.{eqb}
use lib.ListN.{length}
use Rattle.rules.specs.declared.Mapping.{Mapping}
use Rattle.rules.specs.Table.{records, guest_of}
use Rattle.table_record.specs.Records.{no_mapping}
use Rattle.table_record.proofs.Laws.{keep-yes, keep-no}
use Rattle.table_count.proofs.held.Goals.{then-is_of, else-is_of}
use Rattle.table_count.proofs.held.Goals as goal

pub loop-i-preserved : goal.loop-i-preserved
loop-i-preserved c =
    let a = c.args in
    let q : Mapping → Bool = λ r. eqb (guest_of r) a.g.0 in
    let e = sym (c.is_of.ensures ∙ ap q c.get.ensures) in
    elim c.if-is_of.branch [
      | then-is_of w ↦ (omega arith, omega arith, omega (arith, ap length (keep-yes q no_mapping (records a.t.now) a.live c.loop-i.i (omega arith) (e ∙ w.if-is_of.true))))
      | else-is_of w ↦ (omega arith, omega arith, omega (arith, ap length (keep-no q no_mapping (records a.t.now) a.live c.loop-i.i (omega arith) (e ∙ w.if-is_of.false))))
    ]
