-- The loop's invariant: the digits of x and the newline are the i lowest of n, and then the bytes from place i on.
use Rattle.journal_text.proofs.hex.address_line.Given as goal
use mathlib.Core.Path.{◌≡◌}
use mathlib.Core.List.{[], ◌∷◌, ◌++◌}
use lib.ListN.{length, drop}
use Rattle.journal_text.specs.Text.{newline, address, hex_digits}

abbrev pub invariant-loop-i : goal.invariant-loop-i
invariant-loop-i l = (length l.line ≡ 17) × (address l.x ++ (newline ∷ []) ≡ hex_digits l.i l.n ++ drop l.i l.line)
