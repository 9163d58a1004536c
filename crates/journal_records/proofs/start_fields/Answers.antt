use native.Mathlib.Omega.{arith}
use Rattle.journal_records.proofs.Fields.{field-there}
use Rattle.journal_records.proofs.start_fields.Goals as goal

pub returns : goal.returns
returns c =
    let s = c.args.s.now in
    rw (
      field-there 1 8 _ s (omega arith) (omega arith) c.field_at.ensures.0,
      field-there 9 8 _ s (omega arith) (omega arith) c.field_at-2.ensures.0,
      field-there 17 8 _ s (omega arith) (omega arith) c.field_at-3.ensures.0,
      field-there 25 4 _ s (omega arith) (omega arith) c.field_at-4.ensures.0,
      field-there 29 4 _ s (omega arith) (omega arith) c.field_at-5.ensures.0,
    )
