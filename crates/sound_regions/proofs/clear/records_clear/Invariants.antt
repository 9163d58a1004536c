use Rattle.sound_regions.proofs.clear.records_clear.Given as goal
use lib.ListN.{take}
use Rattle.laws.proofs.Rounds.{Tested}
use Rattle.rules.specs.Table.{records}
use Rattle.sound_regions.specs.Clear.{endpoint_clear}

abbrev pub invariant-loop-i : goal.invariant-loop-i
invariant-loop-i l = Tested l.s.listed (endpoint_clear (take l.s.live (records l.t)) l.s) l.ok l.i
