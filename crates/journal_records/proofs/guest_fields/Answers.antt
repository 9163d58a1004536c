use native.Mathlib.Omega.{arith}
use Rattle.journal_records.proofs.Fields.{field-there}
use Rattle.journal_records.proofs.guest_fields.Goals as goal

pub returns : goal.returns
returns c =
    let s = c.args.s.now in
    rw (
      field-there 1 2 _ s (omega arith) (omega arith) c.field_at.ensures.0,
      field-there 3 8 _ s (omega arith) (omega arith) c.field_at-2.ensures.0,
      field-there 11 8 _ s (omega arith) (omega arith) c.field_at-3.ensures.0,
    )
