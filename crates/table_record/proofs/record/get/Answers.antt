use native.Mathlib.Omega.{arith}
use mathlib.Core.Path.{◌≡◌, sym, ◌∙◌}
use borrow.Author.Rules.{rules}
use lib.ListN.{get_or-eq_default}
use Rattle.rules.specs.Table.{records}
use Rattle.table_record.specs.Records.{no_mapping}
use Rattle.rules.proofs.Words.{length-records}
use Rattle.table_record.proofs.record.get.Goals as goal

pub read-requires : goal.read-requires
read-requires c = omega (arith, length-records c.args.t.now)

pub returns : goal.returns
returns c =
    let a = c.args in
    let zeros : c.default.result ≡ no_mapping = search rules in
    zeros ∙ sym (get_or-eq_default (records a.t.now) no_mapping {n = a.i} (omega (arith, length-records a.t.now)))
