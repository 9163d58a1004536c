use borrow.Author.Rules.{rules}
use Rattle.rules.specs.Table.{before}
use Rattle.table_insert.proofs.precedes.Goals as goal

pub returns : goal.returns
unfolding before
returns c = search rules
