use native.Mathlib.Omega.{arith}
use mathlib.Core.Path.{sym, ◌∙◌}
use borrow.Author.Tests.{le-leb}
use Rattle.rules.specs.Sizes.{max_endpoints}
use Rattle.sound_regions.specs.Clear.{regions_good}
use Rattle.sound_regions.proofs.None.{none-unused, none-met}
use Rattle.sound_regions.proofs.regions_good.Goals as goal

-- every word is zero
pub returns-then-zero_from : goal.returns-then-zero_from
unfolding regions_good
returns-then-zero_from c =
    let s = c.args.s.now in
    let z = sym c.zero_from.ensures ∙ c.if-zero_from.true in
    rw (le-leb s.listed max_endpoints (omega arith), none-unused s z, none-met s z)
