use Rattle.sound_places.proofs.guests.guests_good.Given as goal
use Prim.Native.Nat.{◌-◌}
use Rattle.laws.proofs.Rounds.{Tested}
use Rattle.rules.specs.Sizes.{max_guests}
use Rattle.sound_places.specs.Places.{guest_place}

abbrev pub invariant-loop-g : goal.invariant-loop-g
invariant-loop-g l = Tested max_guests (guest_place l.settings l.logged l.lost) l.ok l.g

abbrev pub decreases-loop-g : goal.decreases-loop-g
decreases-loop-g l = max_guests - l.g
