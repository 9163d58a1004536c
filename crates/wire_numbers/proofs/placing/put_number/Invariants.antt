-- The loop's invariant: the first bytes put and then the rest of the number are the number.
use Rattle.wire_numbers.proofs.placing.put_number.Given as goal
use Prim.Native.Nat.{◌-◌}
use mathlib.Core.Path.{◌≡◌}
use mathlib.Core.List.{◌++◌}
use lib.ListN.{length, take}
use Rattle.laws.specs.Bytes.{le_bytes}

abbrev pub invariant-loop-byte : goal.invariant-loop-byte
invariant-loop-byte l = (length l.byte-items ≡ l.n) × (take l.byte-index l.byte-items ++ le_bytes (l.n - l.byte-index) l.rest ≡ le_bytes l.n l.x)
