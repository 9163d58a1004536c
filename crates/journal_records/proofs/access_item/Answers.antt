use native.Mathlib.Omega.{arith}
use borrow.Author.Tests.{le-leb, lt-leb}
use lib.ListN.{get_or}
use Rattle.journal_records.specs.Items.{item_of}
use Rattle.journal_records.proofs.Fields.{field-there}
use Rattle.journal_records.proofs.access_item.Goals as goal

pub returns-then-s-gt1 : goal.returns-then-s-gt1
unfolding item_of
returns-then-s-gt1 c =
    rw (c.requires.1, lt-leb (get_or c.args.s.now 13 0) 1 (omega arith))

pub returns : goal.returns
unfolding item_of
returns c =
    rw (
      c.requires.1,
      le-leb (get_or c.args.s.now 13 0) 1 (omega arith),
      c.endpoint_field-endpoint.ensures,
      field-there 5 8 _ c.args.s.now (omega arith) (omega arith) c.field_at-address.ensures.0,
    )
