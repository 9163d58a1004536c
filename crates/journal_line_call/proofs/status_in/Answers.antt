use native.Mathlib.Omega.{arith}
use borrow.Author.Rules.{rules}
use Prim.Native.Nat.{◌-◌}
use lib.ListN.{length, get_or-eq_default}
use Rattle.rules.specs.Sizes.{status_size}
use Rattle.journal_line_call.proofs.status_in.Goals as goal

pub returns-then-writable-eq0 : goal.returns-then-writable-eq0
returns-then-writable-eq0 c =
    let w = c.args.writable.now in
    rw (get_or-eq_default w 0 {n = length w - status_size} (omega arith))

pub overflow_cast-result : goal.overflow_cast-result
overflow_cast-result c = omega (arith, c.type_inv.writable c.status_place-at.result)

pub returns : goal.returns
returns c = rw c.status_place-at.ensures
