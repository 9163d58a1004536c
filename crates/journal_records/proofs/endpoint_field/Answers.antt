use native.Mathlib.Omega.{arith}
use Rattle.journal_records.proofs.Fields.{field-there}
use Rattle.journal_records.proofs.endpoint_field.Goals as goal

pub returns : goal.returns
returns c = rw (field-there 1 4 _ c.args.s.now (omega arith) (omega arith) c.field_at.ensures.0)
