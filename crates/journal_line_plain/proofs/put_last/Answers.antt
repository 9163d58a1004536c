use native.Mathlib.Omega.{arith}
use borrow.Author.Rules.{rules}
use borrow.Author.Tests.{ne_eqb}
use Rattle.journal_line_plain.proofs.put_last.Goals as goal

pub returns-then-left-eq0 : goal.returns-then-left-eq0
returns-then-left-eq0 c = rw c.if-left-eq0.true c.put_end.ensures

pub returns : goal.returns
returns c =
    rw (ne_eqb c.args.left 0 (λ z. omega arith)) c.put_bad.ensures
