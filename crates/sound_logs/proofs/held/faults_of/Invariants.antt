use Rattle.sound_logs.proofs.held.faults_of.Given as goal
use Prim.Native.Nat.{◌+◌, ◌-◌}
use Rattle.laws.specs.Lists.{pick_by}
use Rattle.laws.proofs.Rounds.{Tested}
use Rattle.rules.specs.Sound.{fault_good}
use Rattle.rules.specs.State.{fault_at}
use Rattle.sound_logs.specs.Faults.{endpoints_alone}

abbrev pub invariant-loop-j : goal.invariant-loop-j
invariant-loop-j l =
    Tested l.n (λ k. fault_good (endpoints_alone (pick_by l.g.0 l.owners l.s.endpoints)) (fault_at l.s (l.first + k))) l.ok l.j

abbrev pub decreases-loop-j : goal.decreases-loop-j
decreases-loop-j l = l.n - l.j
