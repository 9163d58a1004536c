use Prim.Native.Nat.{◌*◌}
use Rattle.laws.specs.Lists.{pick_by}
use Rattle.rules.specs.Sizes.{max_faults}
use Rattle.rules.specs.State.{fault_at}
use Rattle.sound_logs.proofs.Logs.{log-split}
use Rattle.sound_logs.proofs.held.log_good.Goals as goal

pub returns : goal.returns
returns c =
    let a = c.args in
    let s = a.s.now in
    rw (c.zero_places.ensures, c.faults_of.ensures, c.min-held.ensures)
    (log-split (max_faults * a.g.0) a.count (pick_by a.g.0 a.owners.now s.endpoints) (fault_at s))
