use Prim.Native.Nat.{◌+◌, ◌-◌, ◌≤◌}
use mathlib.Core.Path.{◌≡◌, sym, ap, ◌∙◌}
use mathlib.Core.List.{[], ◌∷◌, ◌++◌}
use native.Mathlib.Omega.{arith}
use borrow.Author.Tests.{leb-true}
use lib.ListN.{length, take, drop, length-drop}
use lib.Seq.{take_all}
use Rattle.journal_text.specs.Text.{decimal}
use Rattle.journal_text.specs.Placing.{decimal_room}
use Rattle.journal_text.proofs.Places.{Put, placed-room, room-placed, none-placed}
use Rattle.journal_text.proofs.decimal.put_decimal.Goals as goal

pub returns-then-not-has_room : goal.returns-then-not-has_room
returns-then-not-has_room c =
    let r = c.has_room in
    let a = c.args in
    let p = none-placed decimal_room a.at (decimal a.x ++ (a.end ∷ [])) a.out.now (sym r.ensures ∙ c.if-not-has_room.true) in
    (p.0, p.1, omega arith)

pub returns : goal.returns
returns c =
    let p = c.put_bytes in
    let a = c.args in
    let r = c.has_room in
    let bytes = c.decimal_text-number.result.bytes in
    let from = c.decimal_text-number.result.from in
    let text = decimal a.x ++ (a.end ∷ []) in
    let e : take (decimal_room - from) (drop from bytes) ≡ text = take_all (decimal_room - from) (drop from bytes) (simp length-drop (omega arith)) ∙ c.decimal_text-number.ensures.2 in
    let l : length text ≤ decimal_room = omega (arith, length-drop from bytes, ap length c.decimal_text-number.ensures.2) in
    let yes = sym r.ensures ∙ c.if-not-has_room.false in
    let room : a.at + decimal_room ≤ length a.out.now = leb-true (a.at + decimal_room) (length a.out.now) yes in
    let q : Put a.at text a.out.now p.result c.put_bytes.new.out =
    placed-room (length text) a.at text a.out.now (omega (arith, l, room)) (rw e at p.ensures) in
    let w = room-placed decimal_room a.at text a.out.now yes q in
    (w.0, w.1, omega (arith, q.0, l))
