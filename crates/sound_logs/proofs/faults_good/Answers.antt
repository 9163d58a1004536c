use native.Mathlib.Omega.{arith}
use borrow.Author.Tests.{le-leb}
use mathlib.Core.Path.{sym, ◌∙◌}
use Rattle.rules.specs.Sizes.{max_endpoints}
use Rattle.sound_logs.proofs.NoFaults.{no-faults}
use Rattle.sound_logs.proofs.faults_good.Goals as goal

pub returns-then-none_logged : goal.returns-then-none_logged
returns-then-none_logged c =
    let s = c.args.s.now in
    rw (c.zero_places.ensures, le-leb s.listed max_endpoints (omega arith)) (sym (no-faults s (sym c.none_logged.ensures ∙ c.if-none_logged.true)))
