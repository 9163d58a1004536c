use mathlib.Core.Path.{◌∙◌}
use mathlib.Core.Bool.{true}
use lib.ListN.{take}
use Rattle.rules.specs.Table.{records, overlap}
use Rattle.laws.proofs.Filters.{any_same}
use Rattle.table_overlap.specs.Met.{met}
use Rattle.table_overlap.proofs.Ways.{met-overlaps}
use Rattle.table_overlap.proofs.overlaps.Goals as goal

pub returns : goal.returns
returns c =
    let a = c.args in
    c.any_met.ensures ∙ any_same (met a.r.key a.r.start a.r.end true) (overlap a.r) (take a.live (records a.t.now)) (met-overlaps a.r)
