use Prim.Native.Nat.{◌+◌, ◌-◌}
use mathlib.Core.Path.{◌≡◌, refl, sym, ◌∙◌}
use mathlib.Core.List.{append_assoc}
use native.Mathlib.Omega.{arith}
use lib.ListN.{length-set}
use Rattle.journal_text.specs.Text.{address}
use Rattle.journal_text.proofs.Numbers.{hex_digits-next}
use Rattle.journal_text.proofs.Places.{drop-set}
use Rattle.journal_text.proofs.hex.address_line.Goals as goal

pub loop-i-init : goal.loop-i-init
unfolding address
loop-i-init c = (refl, refl)

pub loop-i-preserved : goal.loop-i-preserved
loop-i-preserved c =
    let s = c.loop-i in
    let i = s.i in
    let e : i - 1 + 1 ≡ i = omega arith in
    (simp length-set s.invariant.0, s.invariant.1 ∙ rw (drop-set s.line (i - 1) c.digit.result (omega arith), e, c.digit.ensures, hex_digits-next i s.n (omega arith), append_assoc))

pub returns : goal.returns
returns c = let e : c.loop-i.i ≡ 0 = omega arith in sym (rw e at c.loop-i.invariant.1)
