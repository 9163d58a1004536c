-- The records that go on from place `from` are those that were passed and those that go on from place i.
use Rattle.map_steps.proofs.runs.run_end.Given as goal
use Prim.Native.Nat.{◌+◌}
use mathlib.Core.Path.{◌≡◌}
use lib.ListN.{take, drop}
use Rattle.rules.specs.Table.{records}
use Rattle.map_steps.specs.Forms.{form_good, run}

abbrev pub invariant-loop-i : goal.invariant-loop-i
invariant-loop-i l =
    l.from + run (form_good l.limits) l.key l.end (drop l.from (take l.live (records l.t))) ≡ l.i + run (form_good l.limits) l.key l.before (drop l.i (take l.live (records l.t)))
