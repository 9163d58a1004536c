use native.Mathlib.Omega.{arith}
use mathlib.Core.Path.{◌∙◌}
use Rattle.rules.proofs.Words.{length-records}
use Rattle.table_record.proofs.Words.{loaded-record}
use Rattle.table_record.proofs.record.read.Goals as goal

pub returns : goal.returns
returns c = c.load.ensures ∙ loaded-record c.args.t.now _ c.requires

pub overflow_mul-i : goal.overflow_mul-i
overflow_mul-i c =
    omega (arith, length-records c.args.t.now)

pub load-requires : goal.load-requires
load-requires c =
    omega (arith, length-records c.args.t.now)
