use native.Mathlib.Omega.{arith}
use mathlib.Core.Path.{◌∙◌}
use Rattle.rules.specs.Table.{records}
use Rattle.table_overlap.specs.Met.{met}
use Rattle.table_record.specs.Records.{no_mapping}
use Rattle.table_overlap.proofs.Passing.{any-on}
use Rattle.table_overlap.proofs.any_met.Goals as goal

pub loop-i-preserved : goal.loop-i-preserved
loop-i-preserved c =
    let a = c.args in
    let g = any-on (met a.key a.a a.b a.inner) no_mapping (records a.t.now) a.live c.loop-i.i (omega arith) c.loop-i.found in
    (omega arith, c.loop-i.invariant.1 ∙ g ∙ rw (c.is_met-found.ensures, c.get.ensures))
