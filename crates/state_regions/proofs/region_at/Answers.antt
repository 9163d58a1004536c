use borrow.Author.Rules.{rules}
use mathlib.Core.Path.{◌≡◌, sym, ◌∙◌}
use Rattle.state_regions.specs.Held.{no_region}
use Rattle.state_regions.proofs.Regions.{region-past, region-in}
use Rattle.state_regions.proofs.region_at.Goals as goal

pub returns-then-j-count_at : goal.returns-then-j-count_at
returns-then-j-count_at c =
    let a = c.args in
    c.load.ensures ∙ sym (region-in a.regions.now a.i a.j (rw (← c.count_at.ensures) c.if-j-count_at.true))

pub returns : goal.returns
returns c =
    let a = c.args in
    let zeros : c.default.result ≡ no_region = search rules in
    zeros ∙ region-past a.regions.now a.i a.j (rw (← c.count_at.ensures) c.if-j-count_at.false)
