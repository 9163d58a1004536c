use Prim.Native.Nat.{◌+◌, ◌-◌}
use mathlib.Core.Path.{◌≡◌, refl, ◌∙◌}
use mathlib.Core.List.{append_assoc}
use native.Mathlib.Omega.{arith}
use borrow.Author.Rules.{rules}
use lib.ListN.{length-set}
use Rattle.journal_text.proofs.Numbers.{decimal-one, decimal-more, tenth}
use Rattle.journal_text.proofs.Places.{drop-set}
use Rattle.journal_text.proofs.decimal.decimal_text.Goals as goal

pub overflow_sub-i : goal.overflow_sub-i
overflow_sub-i c = let s = c.loop-n in omega (arith, (tenth s.n s.i (omega arith) s.invariant.2).0)

pub loop-n-preserved : goal.loop-n-preserved
loop-n-preserved c =
    let s = c.loop-n in
    let t = tenth s.n s.i (omega arith) s.invariant.2 in
    let e : s.i - 1 + 1 ≡ s.i = omega (arith, t.0) in (
      omega arith,
      simp length-set (omega arith),
      t.1,
      s.invariant.3 ∙ rw (e, drop-set s.bytes s.i c.digit.result (omega arith), c.digit.ensures, decimal-more s.n (omega arith), append_assoc),
    )

pub returns : goal.returns
returns c =
    let s = c.loop-n in (
      omega arith,
      simp length-set (omega arith),
      rw (drop-set s.bytes s.i c.digit-2.result (omega arith), c.digit-2.ensures, s.invariant.3, decimal-one s.n (omega arith)),
    )

pub loop-n-init : goal.loop-n-init
loop-n-init c =
    (search rules, refl, omega arith, refl)
