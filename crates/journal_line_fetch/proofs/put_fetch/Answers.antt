use Prim.Native.Nat.{◌+◌, ◌≤◌}
use mathlib.Core.Path.{◌≡◌, refl, sym, ap, ◌∙◌}
use mathlib.Core.List.{[], ◌∷◌, ◌++◌}
use native.Mathlib.Omega.{arith}
use borrow.Author.Rules.{rules}
use lib.ListN.{length}
use borrow.Author.Tests.{not-true, not-false, leb-true}
use Rattle.journal_text.specs.Text.{newline, decimal}
use Rattle.journal_line_plain.specs.Plain.{number_line}
use Rattle.journal_line_fetch.specs.Lines.{fetch_room, fetch_lines, fetch_fits, record_lines}
use Rattle.journal_text.specs.Placing.{decimal_room, line_room, written, written_count}
use Rattle.journal_text.proofs.Places.{Put, put_then, placed-room, placed-next, put-named, put_whole, put-none, written-named, written-within, put-tested}
use Rattle.journal_line_fetch.proofs.Wording.{fetch_head, fetch-given, fetch-refused, fits}
use Rattle.journal_line_fetch.proofs.put_fetch.Goals as goal

pub returns-then-not-fetch_fits : goal.returns-then-not-fetch_fits
returns-then-not-fetch_fits c =
    let s = c.fetch_fits in
    rw (sym s.ensures ∙ c.if-not-fetch_fits.true) (refl, refl)

pub returns-then-not-has_room : goal.returns-then-not-has_room
returns-then-not-has_room c =
    let r = c.has_room in
    let a = c.args in
    let lines = fetch_lines a.a a.buffer.now in
    put-tested (fetch_fits a.a a.buffer.now) (written_count fetch_room a.at lines a.out.now) (written fetch_room a.at lines a.out.now) a.out.now
    (sym c.fetch_fits.ensures ∙ c.if-not-fetch_fits.false)
    (put-none fetch_room a.at lines a.out.now (sym r.ensures ∙ c.if-not-has_room.true))

pub returns-then-number_of-ne0 : goal.returns-then-number_of-ne0
returns-then-number_of-ne0 c =
    let r = c.has_room in
    let a = c.args in
    let lines = fetch_lines a.a a.buffer.now in
    put-tested (fetch_fits a.a a.buffer.now) (written_count fetch_room a.at lines a.out.now) (written fetch_room a.at lines a.out.now) a.out.now
    (sym c.fetch_fits.ensures ∙ c.if-not-fetch_fits.false)
    (written-named fetch_room a.at lines (number_line 70 a.a) a.out.now
    (fetch-refused a.a (λ h. c.if-number_of-ne0.true (c.number_of.ensures ∙ h)) a.buffer.now)
    (written-within line_room fetch_room a.at (number_line 70 a.a) a.out.now (omega arith) (leb-true (a.at + fetch_room) (length a.out.now) (sym r.ensures ∙ c.if-not-has_room.false)) c.put_number.ensures))

pub put_records-requires : goal.put_records-requires
put_records-requires c =
    let r = c.has_room in
    let a = c.args in
    let room : a.at + fetch_room ≤ length a.out.now = leb-true (a.at + fetch_room) (length a.out.now) (sym r.ensures ∙ c.if-not-has_room.false) in
    let first : Put a.at fetch_head a.out.now c.put_bytes-next.result c.put_bytes-next.new.out = placed-room 4 a.at fetch_head a.out.now (omega (arith, room)) c.put_bytes-next.ensures in
    let f = fits a.a a.buffer.now (sym c.fetch_fits.ensures ∙ c.if-not-fetch_fits.false) in
    (omega arith, omega arith, omega (arith, room, first.0, c.put_decimal-after.ensures.2))

pub returns : goal.returns
returns c =
    let r = c.has_room in
    let a = c.args in
    let buffer = a.buffer.now in
    let n = c.count_of-count.result in
    let count = decimal n ++ (newline ∷ []) in
    let lines = fetch_lines a.a buffer in
    let yes = sym r.ensures ∙ c.if-not-has_room.false in
    let room : a.at + fetch_room ≤ length a.out.now = leb-true (a.at + fetch_room) (length a.out.now) yes in
    let head : Put a.at fetch_head a.out.now c.put_bytes-next.result c.put_bytes-next.new.out = placed-room 4 a.at fetch_head a.out.now (omega (arith, room)) c.put_bytes-next.ensures in
    let first : Put a.at (fetch_head ++ count) a.out.now c.put_decimal-after.result c.put_decimal-after.new.out =
    placed-next decimal_room a.at fetch_head count a.out.now (omega (arith, room)) head (c.put_decimal-after.ensures.0, c.put_decimal-after.ensures.1) in
    let named : lines ≡ (fetch_head ++ count) ++ record_lines n buffer =
    fetch-given a.a (sym c.number_of.ensures ∙ c.if-number_of-ne0.false) buffer ∙ ap (λ m. (fetch_head ++ (decimal m ++ (newline ∷ []))) ++ record_lines m buffer) (sym c.count_of-count.ensures) in
    put-tested (fetch_fits a.a buffer) (written_count fetch_room a.at lines a.out.now) (written fetch_room a.at lines a.out.now) a.out.now
    (sym c.fetch_fits.ensures ∙ c.if-not-fetch_fits.false)
    (put_whole fetch_room a.at lines a.out.now yes
    (put-named a.at lines ((fetch_head ++ count) ++ record_lines n buffer) a.out.now named
    (put_then a.at (fetch_head ++ count) (record_lines n buffer) a.out.now (omega (arith, head.0, first.0, c.put_decimal-after.ensures.2, room)) first
    c.put_records.ensures)))
