-- The loop's invariant: the records of the first j faults, and then the bytes that were there.
use Prim.Native.Nat.{◌+◌}
use mathlib.Core.Path.{◌≡◌}
use Rattle.rules.specs.State.{fault_at}
use Rattle.call_fetch.proofs.Records.{written}
use Rattle.call_fetch.proofs.putting.put_faults.Given as goal

abbrev pub invariant-loop-j : goal.invariant-loop-j
invariant-loop-j l = l.buffer ≡ written (λ k. fault_at l.s (l.first + k)) l.j l.initial.buffer
