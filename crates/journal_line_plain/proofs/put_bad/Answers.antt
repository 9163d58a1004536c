-- The line of a bad journal is its words, which are put first, and the offset, which is put after them.
use Prim.Native.Nat.{ℕ}
use mathlib.Core.Path.{refl, sym, ◌∙◌}
use mathlib.Core.List.{List, [], ◌∷◌, ◌++◌}
use native.Mathlib.Omega.{arith}
use borrow.Author.Rules.{rules}
use borrow.Author.Tests.{not-true, not-false}
use Rattle.journal_text.specs.Placing.{decimal_room, line_room}
use Rattle.journal_text.specs.Text.{newline, decimal}
use Rattle.journal_line_plain.specs.Plain.{bad_line}
use Rattle.journal_text.proofs.Places.{put-pieces, put-none}
use Rattle.journal_line_plain.proofs.put_bad.Goals as goal

-- "bad journal at "
abbrev bad_head : List ℕ
bad_head = 98 ∷ 97 ∷ 100 ∷ 32 ∷ 106 ∷ 111 ∷ 117 ∷ 114 ∷ 110 ∷ 97 ∷ 108 ∷ 32 ∷ 97 ∷ 116 ∷ 32 ∷ []

pub returns-then-not-has_room : goal.returns-then-not-has_room
returns-then-not-has_room c =
    let r = c.has_room in
    let a = c.args in
    put-none line_room a.at (bad_line a.offset) a.out.now (sym r.ensures ∙ c.if-not-has_room.true)

pub returns : goal.returns
unfolding bad_line
returns c =
    let r = c.has_room in
    let a = c.args in
    put-pieces line_room 15 decimal_room a.at (bad_line a.offset) bad_head (decimal a.offset ++ (newline ∷ [])) a.out.now (sym r.ensures ∙ c.if-not-has_room.false) (omega arith) (omega arith) refl
    c.put_bytes-next.ensures
    (c.put_decimal.ensures.0, c.put_decimal.ensures.1)
