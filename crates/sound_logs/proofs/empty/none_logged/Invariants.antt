use Rattle.sound_logs.proofs.empty.none_logged.Given as goal
use lib.Dec.{eqb}
use lib.ListN.{get_or}
use Rattle.laws.proofs.Rounds.{Tested}
use Rattle.rules.specs.Sizes.{max_guests}

abbrev pub invariant-loop-count : goal.invariant-loop-count
invariant-loop-count l = Tested max_guests (λ h. eqb (get_or l.s.logged h 0) 0) l.ok l.count-index
