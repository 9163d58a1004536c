-- The loop's invariant: x is the number in the bytes passed, those from byte k + i on, and so below 256 to their number.
use Rattle.wire_numbers.proofs.fields.number_at.Given as goal
use Prim.Native.Nat.{◌+◌, ◌-◌, ◌^◌, ◌<◌}
use mathlib.Core.Path.{◌≡◌}
use Rattle.laws.specs.Bytes.{le_field}

abbrev pub invariant-loop-i : goal.invariant-loop-i
invariant-loop-i l = (l.x ≡ le_field (l.k + l.i) (l.n - l.i) l.bytes) × (l.x < 256 ^ (l.n - l.i))
