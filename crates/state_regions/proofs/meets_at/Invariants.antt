-- met says of the regions below j whether one meets the addresses.
use Rattle.rules.specs.Configuration.{meets}
use Rattle.state_regions.proofs.Regions.{Asked}
use Rattle.state_regions.proofs.meets_at.Given as goal

abbrev pub invariant-loop-j : goal.invariant-loop-j
invariant-loop-j l = Asked (meets l.a l.b) l.regions l.i l.met l.j
