-- The loop's invariant: what is left to put, put at next, gives what is asked of the whole.
use Rattle.journal_line_fetch.proofs.records.put_records.Given as goal
use Prim.Native.Nat.{◌+◌, ◌-◌, ◌*◌, ◌≤◌}
use mathlib.Core.Path.{◌≡◌, refl, sym, ap, ◌∙◌}
use mathlib.Core.List.{◌++◌}
use native.Mathlib.Omega.{arith}
use borrow.Author.Rules.{rules}
use lib.ListN.{length, take, drop, length-append, length-take, length-drop}
use Rattle.journal_line_fetch.specs.Lines.{record_lines}
use Rattle.journal_text.specs.Text.{hex_line}
use Rattle.journal_text.specs.Placing.{placed}
use Rattle.journal_text.proofs.Numbers.{hex_line-length}
use Rattle.journal_text.proofs.Places.{Put, placed-room, length-placed, placed-then, placed-none}
use Rattle.journal_line_fetch.proofs.Wording.{records-next}

abbrev pub invariant-loop-i : goal.invariant-loop-i
invariant-loop-i l =
    let rest = record_lines (l.count - l.i) (drop (24 * l.i) l.buffer) in
    (l.i ≤ l.count) × (length l.out ≡ length l.initial.out) × (l.next ≡ l.at + 49 * l.i) × (l.next + length rest ≡ l.at + length (record_lines l.count l.buffer)) × (placed l.next rest l.out ≡ placed l.at (record_lines l.count l.buffer) l.initial.out)

abbrev pub decreases-loop-i : goal.decreases-loop-i
decreases-loop-i l = l.count - l.i
