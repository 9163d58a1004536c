-- The lines are the request's, which is put first, and the properties', which is put after it.
use Prim.Native.Nat.{◌+◌, ◌≤◌}
use mathlib.Core.Path.{sym, ap, ◌∙◌}
use mathlib.Core.List.{◌++◌}
use native.Mathlib.Omega.{arith}
use borrow.Author.Rules.{rules}
use borrow.Author.Tests.{leb-true, le-leb}
use lib.ListN.{length, take}
use lib.Seq.{length-take-le}
use Rattle.rules.specs.Sizes.{properties_size}
use Rattle.journal_text.specs.Text.{hex_line}
use Rattle.journal_text.specs.Placing.{line_room}
use Rattle.journal_line_call.specs.Lines.{request_line}
use Rattle.journal_line_probe.specs.Lines.{probe_room, probe_lines}
use Rattle.journal_text.proofs.Places.{Put, placed-room, placed-next, put-named, put_whole, put-none, written-named, written-within}
use Rattle.journal_line_probe.proofs.Wording.{probe-served, probe-refused, hex-few}
use Rattle.journal_line_probe.proofs.put_probe.Goals as goal

pub returns-then-not-has_room : goal.returns-then-not-has_room
returns-then-not-has_room c =
    let r = c.has_room in
    let a = c.args in
    put-none probe_room a.at (probe_lines a.a a.writable.now) a.out.now (sym r.ensures ∙ c.if-not-has_room.true)

pub returns-then-number_of-ne0 : goal.returns-then-number_of-ne0
returns-then-number_of-ne0 c =
    let p = c.put_request-k in
    let a = c.args in
    let line = request_line a.a a.writable.now in
    let room : a.at + probe_room ≤ length a.out.now = leb-true (a.at + probe_room) (length a.out.now) (sym c.has_room.ensures ∙ c.if-not-has_room.false) in
    written-named probe_room a.at (probe_lines a.a a.writable.now) line a.out.now
    (probe-refused a.a a.writable.now (λ h. c.if-number_of-ne0.true (c.number_of.ensures ∙ h)))
    (written-within line_room probe_room a.at line a.out.now (omega arith) room (p.ensures.0, p.ensures.1))

pub overflow_add-at : goal.overflow_add-at
overflow_add-at c =
    let a = c.args in
    let room : a.at + probe_room ≤ length a.out.now = leb-true (a.at + probe_room) (length a.out.now) (sym c.has_room.ensures ∙ c.if-not-has_room.false) in
    record { fits = omega (arith, room, c.put_request-k.ensures.2) }

pub returns : goal.returns
returns c =
    let a = c.args in
    let w = a.writable.now in
    let line = request_line a.a w in
    let text = hex_line (take properties_size w) in
    let lines = probe_lines a.a w in
    let p = c.put_request-k in
    let put = p.ensures in
    let room : a.at + probe_room ≤ length a.out.now = leb-true (a.at + probe_room) (length a.out.now) (sym c.has_room.ensures ∙ c.if-not-has_room.false) in
    let first : Put a.at line a.out.now (a.at + p.result) p.new.out =
    placed-room line_room a.at line a.out.now (omega (arith, room)) (ap (λ k. a.at + k) put.0, put.1) in
    put_whole probe_room a.at lines a.out.now (le-leb (a.at + probe_room) (length a.out.now) room)
    (put-named a.at lines (line ++ text) a.out.now
    (probe-served a.a w (sym c.number_of.ensures ∙ c.if-number_of-ne0.false))
    (placed-next (length text) a.at line text a.out.now (omega (arith, room, put.2, first.0, hex-few w)) first
    (rw c.properties_in-n.ensures.1 at c.put_hex.ensures)))
