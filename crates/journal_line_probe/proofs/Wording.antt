-- Laws of the lines of a request with properties: as the pieces that are put one after the other.
use Prim.Native.Nat.{ℕ, ◌≤◌}
use mathlib.Core.Path.{◌≡◌}
use mathlib.Core.List.{List, ◌++◌, append-nil}
use native.Mathlib.Omega.{arith}
use borrow.Author.Tests.{eq-eqb, ne_eqb}
use lib.ListN.{length, take, length-take}
use Rattle.rules.specs.declared.Answer.{Answer}
use Rattle.rules.specs.Sizes.{properties_size}
use Rattle.rules.specs.Answers.{number}
use Rattle.journal_text.specs.Text.{hex_line}
use Rattle.journal_text.proofs.Numbers.{hex_line-length}
use Rattle.journal_line_call.specs.Lines.{request_line}
use Rattle.journal_line_probe.specs.Lines.{properties_line, probe_lines}

module _ (a : Answer) (w : List ℕ) where
  pub probe-served : number a ≡ 0 → probe_lines a w ≡ request_line a w ++ hex_line (take properties_size w)
  unfolding probe_lines
  probe-served h = rw (eq-eqb (number a) 0 h)

  pub probe-refused : (number a ≡ 0 → ⊥) → probe_lines a w ≡ request_line a w
  unfolding probe_lines
  probe-refused h = rw (ne_eqb (number a) 0 h) (append-nil (request_line a w))

-- the line of the properties has no more bytes than are asked for
pub hex-few : (w : List ℕ) → length (hex_line (take properties_size w)) ≤ properties_line
hex-few w = omega (arith, hex_line-length (take properties_size w), length-take properties_size w)
