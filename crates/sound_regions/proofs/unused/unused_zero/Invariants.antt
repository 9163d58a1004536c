use Rattle.sound_regions.proofs.unused.unused_zero.Given as goal
use Rattle.laws.proofs.Rounds.{Tested}
use Rattle.rules.specs.Configuration.{endpoint_regions, used_words}
use Rattle.rules.specs.Sound.{zero_from}

abbrev pub invariant-loop-i : goal.invariant-loop-i
invariant-loop-i l = Tested l.s.listed (λ k. zero_from (used_words l.s.regions k) (endpoint_regions l.s.regions k)) l.ok l.i
