-- The loop's invariant: there is the room, and out is its old self with the digits of the first i bytes copied in.
use Rattle.journal_text.proofs.hex.put_hex.Given as goal
use Prim.Native.Nat.{◌+◌, ◌-◌, ◌*◌, ◌≤◌}
use mathlib.Core.Path.{◌≡◌}
use lib.ListN.{length}
use lib.Seq.{paste}
use Rattle.journal_text.specs.Text.{hex_line}

abbrev pub invariant-loop-i : goal.invariant-loop-i
invariant-loop-i l =
    (l.i ≤ l.n) × (l.n ≡ length l.bytes) × (l.at + (2 * l.n + 1) ≤ length l.initial.out) × (length l.out ≡ length l.initial.out) × (l.out ≡ paste l.initial.out l.at (hex_line l.bytes) (2 * l.i))

abbrev pub decreases-loop-i : goal.decreases-loop-i
decreases-loop-i l = l.n - l.i
