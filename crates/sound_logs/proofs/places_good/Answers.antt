use native.Mathlib.Omega.{arith}
use borrow.Author.Rules.{rules}
use mathlib.Core.Path.{◌∙◌}
use Rattle.laws.proofs.Rounds.{tested-none, tested-next, tested-all}
use Rattle.sound_logs.proofs.Logs.{logs-good}
use Rattle.sound_logs.proofs.places_good.Goals as goal

pub loop-g-preserved : goal.loop-g-preserved
loop-g-preserved c =
    let l = c.loop-g in
    tested-next _ _ l.ok c.log_good-ok.result l.g l.invariant (omega arith) c.log_good-ok.ensures

pub returns : goal.returns
returns c =
    tested-all _ _ c.loop-g.ok c.loop-g.g c.loop-g.invariant (omega arith)
    ∙ rw c.owners_among-owners.ensures (logs-good c.args.s.now (omega arith) (search rules))

pub loop-g-init : goal.loop-g-init
loop-g-init c =
    tested-none _ _
