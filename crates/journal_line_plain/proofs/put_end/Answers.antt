use mathlib.Core.Path.{sym, ◌∙◌}
use native.Mathlib.Omega.{arith}
use borrow.Author.Rules.{rules}
use borrow.Author.Tests.{not-true, not-false, leb-true}
use Rattle.journal_text.specs.Placing.{line_room}
use Rattle.journal_line_plain.specs.Plain.{end_line}
use Rattle.journal_text.proofs.Places.{placed-room, put_whole, put-none}
use Rattle.journal_line_plain.proofs.put_end.Goals as goal

pub returns-then-not-has_room : goal.returns-then-not-has_room
returns-then-not-has_room c =
    let r = c.has_room in
    let a = c.args in
    put-none line_room a.at end_line a.out.now (sym r.ensures ∙ c.if-not-has_room.true)

pub returns : goal.returns
returns c =
    let r = c.has_room in
    let a = c.args in
    let yes = sym r.ensures ∙ c.if-not-has_room.false in
    put_whole line_room a.at end_line a.out.now yes (placed-room 2 a.at end_line a.out.now (omega (arith, leb-true, yes)) c.put_bytes.ensures)
