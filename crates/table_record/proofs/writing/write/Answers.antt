use native.Mathlib.Omega.{arith}
use mathlib.Core.Path.{◌∙◌}
use Rattle.rules.proofs.Words.{length-records}
use Rattle.table_record.proofs.Stored.{stored-record, stored_past}
use Rattle.table_record.proofs.writing.write.Goals as goal

pub returns-then-i-t : goal.returns-then-i-t
returns-then-i-t c =
    let a = c.args in
    c.store.ensures ∙ stored-record a.t.now a.i a.r (omega (arith, length-records a.t.now))

pub returns-else-i-t : goal.returns-else-i-t
returns-else-i-t c =
    let a = c.args in
    stored_past a.t.now a.i a.r (omega (arith, length-records a.t.now))
