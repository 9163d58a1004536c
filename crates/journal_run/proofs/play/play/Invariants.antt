-- The loop's invariant: what was worked and put so far.
use Prim.Native.Nat.{◌-◌}
use lib.ListN.{length}
use Rattle.journal_run.proofs.Playing.{Went}
use Rattle.journal_run.proofs.play.play.Given as goal

abbrev pub invariant-loop-out : goal.invariant-loop-out
invariant-loop-out l = Went l.initial.p l.initial.t l.s l.initial.out l.p l.t l.out l.read l.printed

abbrev pub decreases-loop-out : goal.decreases-loop-out
decreases-loop-out l = length l.s - l.read
