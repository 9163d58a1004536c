use mathlib.Core.Path.{◌∙◌}
use mathlib.Core.Bool.{false}
use lib.ListN.{take}
use Rattle.rules.specs.Table.{records}
use Rattle.rules.specs.Handlers.{straddles}
use Rattle.laws.proofs.Filters.{any_same}
use Rattle.table_overlap.specs.Met.{met}
use Rattle.table_overlap.proofs.Ways.{met-straddles}
use Rattle.table_overlap.proofs.straddled.Goals as goal

pub returns : goal.returns
returns c =
    let a = c.args in
    c.any_met.ensures ∙ any_same (met a.key a.a a.b false) (straddles a.key a.a a.b) (take a.live (records a.t.now)) (met-straddles a.key a.a a.b)
