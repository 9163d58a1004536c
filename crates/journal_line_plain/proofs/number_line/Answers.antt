use native.Mathlib.Omega.{arith}
use borrow.Author.Rules.{rules}
use Rattle.journal_line_plain.specs.Plain.{number_line}
use Rattle.journal_line_plain.proofs.Numbers.{small, number-text}
use Rattle.journal_line_plain.proofs.number_line.Goals as goal

pub returns : goal.returns
unfolding number_line
returns c = rw (number-text c.args.a, c.number_of.ensures)

pub overflow_add-result : goal.overflow_add-result
overflow_add-result c =
    record { fits = omega (arith, small c.args.a) }
