-- The line of an access that goes through is its start, which is put first, and the address, which is put after it.
use mathlib.Core.Path.{sym, ◌∙◌}
use native.Mathlib.Omega.{arith}
use borrow.Author.Rules.{rules}
use borrow.Author.Tests.{not-true, not-false}
use lib.ListN.{length}
use Rattle.journal_text.specs.Placing.{line_room}
use Rattle.journal_line_plain.specs.Plain.{number_line}
use Rattle.journal_line_call.specs.Lines.{access_line}
use Rattle.journal_text.proofs.Places.{put-pieces, put-none, written-named}
use Rattle.journal_line_call.proofs.Wording.{access_head, access-through, access-refused}
use Rattle.journal_line_call.proofs.put_access.Goals as goal

pub returns-then-number_of-ne0 : goal.returns-then-number_of-ne0
returns-then-number_of-ne0 c =
    let a = c.args in
    written-named line_room a.at (access_line a.a) (number_line 65 a.a) a.out.now
    (access-refused a.a (λ h. c.if-number_of-ne0.true (c.number_of.ensures ∙ h)))
    c.put_number.ensures

pub returns-then-not-has_room : goal.returns-then-not-has_room
returns-then-not-has_room c =
    let r = c.has_room in
    let a = c.args in
    put-none line_room a.at (access_line a.a) a.out.now (sym r.ensures ∙ c.if-not-has_room.true)

pub returns : goal.returns
returns c =
    let a = c.args in
    let r = c.has_room in
    put-pieces line_room 4 (length c.address_line-line.result) a.at (access_line a.a) access_head c.address_line-line.result a.out.now
    (sym r.ensures ∙ c.if-not-has_room.false) (omega arith) (omega arith)
    (rw (c.address_line-line.ensures, c.address_of.ensures) (access-through a.a (sym c.number_of.ensures ∙ c.if-number_of-ne0.false)))
    c.put_bytes-next.ensures
    c.put_bytes.ensures
