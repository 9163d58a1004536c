use native.Mathlib.Omega.{arith}
use lib.ListN.{length-take}
use Rattle.rules.specs.Table.{records}
use Rattle.rules.proofs.Words.{length-records}
use Rattle.table_record.proofs.record.bounded.Goals as goal

pub returns : goal.returns
returns c =
    let a = c.args in omega (arith, length-take a.live (records a.t.now), length-records a.t.now)
