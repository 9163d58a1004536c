use native.Mathlib.Omega.{arith}
use borrow.Author.Tests.{le-leb, lt-leb}
use lib.ListN.{get_or}
use Rattle.journal_records.specs.Items.{item_of}
use Rattle.journal_records.proofs.fetch_item.Goals as goal

pub returns-then-s-gt-MAX_ASKED : goal.returns-then-s-gt-MAX_ASKED
unfolding item_of
returns-then-s-gt-MAX_ASKED c =
    rw (c.requires.1, lt-leb (get_or c.args.s.now 2 0) 16 (omega arith))

pub returns : goal.returns
unfolding item_of
returns c =
    rw (c.requires.1, le-leb (get_or c.args.s.now 2 0) 16 (omega arith))
