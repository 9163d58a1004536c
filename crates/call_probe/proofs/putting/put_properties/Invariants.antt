-- The properties of the first j regions, and then the bytes that were there.
use mathlib.Core.Path.{◌≡◌}
use Rattle.state_regions.specs.Held.{held_regions}
use Rattle.call_probe.proofs.Put.{written}
use Rattle.call_probe.proofs.putting.put_properties.Given as goal

abbrev pub invariant-loop-j : goal.invariant-loop-j
invariant-loop-j l = l.out ≡ written (held_regions l.regions l.i) l.j l.initial.out
