use Rattle.sound_places.proofs.shares.all_kept.Given as goal
use Prim.Native.Nat.{◌-◌}
use lib.Dec.{leb}
use lib.ListN.{get_or}
use Rattle.laws.proofs.Rounds.{Tested}

abbrev pub invariant-loop-g : goal.invariant-loop-g
invariant-loop-g l = Tested l.g-end (λ k. leb (get_or l.counts k 0) (get_or l.shares k 0)) l.ok l.g

abbrev pub decreases-loop-g : goal.decreases-loop-g
decreases-loop-g l = l.g-end - l.g
