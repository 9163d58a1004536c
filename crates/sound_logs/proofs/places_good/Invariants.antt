use Rattle.sound_logs.proofs.places_good.Given as goal
use Prim.Native.Nat.{◌+◌, ◌*◌, ◌-◌}
use lib.ListN.{get_or}
use Rattle.laws.specs.Lists.{below, pick_by}
use Rattle.laws.proofs.Rounds.{Tested}
use Rattle.rules.specs.Sizes.{max_guests, max_faults}
use Rattle.rules.specs.State.{fault_at}
use Rattle.sound_logs.specs.Faults.{place_good}

abbrev pub invariant-loop-g : goal.invariant-loop-g
invariant-loop-g l =
    Tested max_guests (λ h. below max_faults (λ j. place_good (get_or l.s.logged h 0) (pick_by h l.owners l.s.endpoints) j (fault_at l.s (max_faults * h + j)))) l.ok l.g

abbrev pub decreases-loop-g : goal.decreases-loop-g
decreases-loop-g l = max_guests - l.g
