use native.Mathlib.Omega.{arith}
use borrow.Author.Rules.{rules}
use borrow.Author.Tests.{le-leb, lt-leb}
use Rattle.rules.specs.Sizes.{max_faults}
use Rattle.rules.specs.Answers.{fetched_count}
use Rattle.journal_line_fetch.specs.Lines.{fetch_fits}
use Rattle.journal_line_fetch.proofs.records.fetch_fits.Goals as goal

pub returns-then-count-gt-MAX_FAULTS : goal.returns-then-count-gt-MAX_FAULTS
unfolding fetch_fits
returns-then-count-gt-MAX_FAULTS c = rw (lt-leb (fetched_count c.args.a) max_faults (omega arith))

pub returns : goal.returns
unfolding fetch_fits
returns c = rw (le-leb (fetched_count c.args.a) max_faults (omega arith), c.count_of-count.ensures)
