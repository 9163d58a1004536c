use Prim.Native.Nat.{◌+◌, ◌-◌, ◌*◌, ◌≤◌}
use mathlib.Core.Path.{◌≡◌, refl, sym, ap, ◌∙◌}
use mathlib.Core.List.{◌++◌}
use native.Mathlib.Omega.{arith}
use borrow.Author.Rules.{rules}
use lib.ListN.{length, take, drop, length-append, length-take, length-drop}
use Rattle.journal_line_fetch.specs.Lines.{record_lines}
use Rattle.journal_text.specs.Text.{hex_line}
use Rattle.journal_text.specs.Placing.{placed}
use Rattle.journal_text.proofs.Numbers.{hex_line-length}
use Rattle.journal_text.proofs.Places.{Put, placed-room, length-placed, placed-then, placed-none}
use Rattle.journal_line_fetch.proofs.Wording.{records-next}
use Rattle.journal_line_fetch.proofs.records.put_records.Goals as goal

pub loop-i-init : goal.loop-i-init
loop-i-init c =
    let n = c.args.count in
    let e : n - 0 ≡ n = omega arith in
    (search rules, refl, search rules, rw e, rw e)

pub loop-i-preserved : goal.loop-i-preserved
loop-i-preserved c =
    let a = c.args in
    let i = c.loop-i.i in
    let bytes = take 24 (drop (24 * i) a.buffer.now) in
    let line = hex_line bytes in
    let left = record_lines (a.count - (i + 1)) (drop (24 * (i + 1)) a.buffer.now) in
    let g : 24 * i + 24 - 24 * i ≡ 24 = omega arith in
    let m : length bytes ≡ 24 = simp (length-take, length-drop) (omega arith) in
    let l : length line ≡ 49 = omega (arith, hex_line-length bytes, m) in
    let q : Put c.loop-i.next line c.loop-i.out c.put_hex-next.result c.put_hex-next.new.out = placed-room (length line) c.loop-i.next line c.loop-i.out (omega (arith, l)) (rw g at c.put_hex-next.ensures) in
    let n : record_lines (a.count - i) (drop (24 * i) a.buffer.now) ≡ line ++ left = records-next a.count i a.buffer.now (omega arith) in (
      omega arith,
      rw q.1 (length-placed c.loop-i.next line c.loop-i.out (omega (arith, l)) ∙ c.loop-i.invariant.1),
      omega (arith, q.0, l),
      omega (arith, q.0, simp length-append at (ap length n)),
      rw (q.0, q.1) (placed-then c.loop-i.next line c.loop-i.out (omega (arith, l)) left ∙ rw (← n) c.loop-i.invariant.4),
    )

pub returns : goal.returns
returns c =
    let s = c.loop-i in
    let e : c.args.count - s.i ≡ 0 = omega arith in
    (omega (arith, rw e at s.invariant.3), sym (placed-none s.next s.out) ∙ rw e at s.invariant.4)
