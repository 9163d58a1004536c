use Prim.Native.Nat.{ℕ, suc, ◌+◌, ◌*◌}
use mathlib.Core.Path.{◌≡◌, refl, sym, ◌∙◌}
use native.Mathlib.Omega.{arith}
use borrow.Author.Tests.{leb-true, le-leb, lt-leb}
use mathlib.Core.List.{List}
use lib.Dec.{leb}
use lib.ListN.{length, length-set}
use lib.Seq.{paste-zero, paste-suc}
use Rattle.journal_text.specs.Text.{hex_line}
use Rattle.journal_text.proofs.Numbers.{hex_line-length, hex_line-byte, hex_line-end}
use Rattle.journal_text.proofs.Places.{placed-paste, room-placed, none-placed}
use Rattle.journal_text.proofs.hex.put_hex.Goals as goal

-- the room that the code asks for is the line's
room_as : (at : ℕ) (bs out : List ℕ) → leb (at + length (hex_line bs)) (length out) ≡ leb (at + (2 * length bs + 1)) (length out)
room_as at bs out = rw (hex_line-length bs)

pub returns-then-out-n : goal.returns-then-out-n
returns-then-out-n c =
    let a = c.args in
    let b = a.bytes.now in
    none-placed (length (hex_line b)) a.at (hex_line b) a.out.now (lt-leb (a.at + length (hex_line b)) (length a.out.now) (omega (arith, hex_line-length b)))

pub returns-then-not-has_room : goal.returns-then-not-has_room
returns-then-not-has_room c =
    let r = c.has_room in
    let a = c.args in
    let b = a.bytes.now in
    none-placed (length (hex_line b)) a.at (hex_line b) a.out.now (room_as a.at b a.out.now ∙ sym r.ensures ∙ c.if-not-has_room.true)

pub loop-i-init : goal.loop-i-init
loop-i-init c =
    let r = c.has_room in
    let a = c.args in
    let b = a.bytes.now in (
      omega arith,
      refl,
      leb-true (a.at + (2 * length b + 1)) (length a.out.now) (sym r.ensures ∙ c.if-not-has_room.false),
      refl,
      paste-zero a.out.now a.at (hex_line b),
    )

pub loop-i-preserved : goal.loop-i-preserved
loop-i-preserved c =
    let a = c.args in
    let i = c.loop-i.i in
    let b = a.bytes.now in
    let d = hex_line-byte b i (omega arith) in
    let l = hex_line-length b in
    let e : a.at + 2 * i + 1 ≡ a.at + suc (2 * i) = omega arith in
    let f : 2 * (i + 1) ≡ suc (suc (2 * i)) = omega arith in (
      omega arith,
      refl,
      c.loop-i.invariant.2,
      simp length-set (omega arith),
      rw (c.hex_of-digits.ensures, c.loop-i.invariant.4, ← d.0, ← d.1, paste-suc a.out.now a.at (hex_line b) (2 * i) 0 (omega arith) (omega (arith, l)), e, paste-suc a.out.now a.at (hex_line b) (suc (2 * i)) 0 (omega arith) (omega (arith, l)), f),
    )

pub returns : goal.returns
returns c =
    let s = c.loop-i in
    let a = c.args in
    let b = a.bytes.now in
    let l = hex_line-length b in
    let e : s.i ≡ length b = omega arith in
    let f : length (hex_line b) ≡ suc (2 * length b) = omega (arith, l) in
    room-placed (length (hex_line b)) a.at (hex_line b) a.out.now (le-leb (a.at + length (hex_line b)) (length a.out.now) (omega (arith, l, s.invariant.2))) (
      omega (arith, l),
      rw (s.invariant.4, e, ← hex_line-end b, paste-suc a.out.now a.at (hex_line b) (2 * length b) 0 (omega (arith, s.invariant.2)) (omega (arith, l)), ← f) (sym (placed-paste a.at (hex_line b) a.out.now)),
    )

pub bounds-out-at-in-loop-i : goal.bounds-out-at-in-loop-i
bounds-out-at-in-loop-i c =
    simp length-set (omega arith)
