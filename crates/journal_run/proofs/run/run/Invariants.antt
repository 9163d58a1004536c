-- The loop's invariant: what was worked and put so far, and that state and table are sound.
use Prim.Native.Nat.{◌-◌}
use lib.ListN.{length}
use Rattle.refinement.specs.Flat.{device}
use Rattle.journal_session.specs.Steps.{running}
use Rattle.journal_run.specs.Running.{Ready}
use Rattle.journal_run.proofs.Playing.{Went}
use Rattle.journal_run.proofs.run.run.Given as goal

abbrev pub invariant-loop-out : goal.invariant-loop-out
invariant-loop-out l = Went (running l.initial.s) l.initial.t l.b l.initial.out (running l.s) l.t l.out l.read l.printed × Ready (device l.s l.t)

abbrev pub decreases-loop-out : goal.decreases-loop-out
decreases-loop-out l = length l.b - l.read
