use native.Mathlib.Omega.{arith}
use Rattle.journal_records.proofs.Fields.{field-there}
use Rattle.journal_records.proofs.region_fields.Goals as goal

pub returns : goal.returns
returns c =
    let s = c.args.s.now in
    rw (
      field-there 6 8 _ s (omega arith) (omega arith) c.field_at.ensures.0,
      field-there 14 8 _ s (omega arith) (omega arith) c.field_at-2.ensures.0,
    )

pub overflow_cast-result : goal.overflow_cast-result
overflow_cast-result c =
    omega (arith, c.type_inv.s 5)
