use native.Mathlib.Omega.{arith}
use mathlib.Core.Path.{sym, ◌∙◌}
use mathlib.Core.Bool.{or-false}
use lib.Dec.{eqb}
use Rattle.rules.specs.Handlers.{listed}
use Rattle.laws.proofs.Owned.{owned-end}
use Rattle.sound_logs.proofs.named.is_listed.Goals as goal

pub returns : goal.returns
unfolding listed
returns c =
    let a = c.args in
    sym (c.loop-j.invariant.1 ∙ rw (owned-end (eqb a.e.0) 0 a.g.0 a.owners.now a.s.now.endpoints c.loop-j.j (omega arith)) (or-false c.loop-j.found))
