use native.Mathlib.Omega.{arith}
use Rattle.rules.specs.Configuration.{meets}
use Rattle.state_regions.proofs.Regions.{asked-next, asked-all}
use Rattle.state_regions.proofs.meets_at.Goals as goal

pub loop-j-preserved : goal.loop-j-preserved
loop-j-preserved c =
    let l = c.loop-j in
    let a = c.args in
    asked-next (meets a.a a.b) a.regions.now a.i l.met _ l.j l.invariant (omega (arith, c.count_at-n.ensures)) (rw c.region_at-q.ensures)

pub returns : goal.returns
returns c =
    let l = c.loop-j in
    let a = c.args in
    asked-all (meets a.a a.b) a.regions.now a.i l.met l.j l.invariant (omega (arith, c.count_at-n.ensures))
