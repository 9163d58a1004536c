use mathlib.Core.Path.{sym}
use native.Mathlib.Omega.{arith}
use borrow.Author.Tests.{lt-leb}
use lib.ListN.{length}
use Rattle.laws.specs.Bytes.{le_field}
use Rattle.wire_numbers.proofs.Laws.{no_field, power-above}
use Rattle.wire_numbers.proofs.fields.field_at.Goals as goal

pub returns-then-n-gt8 : goal.returns-then-n-gt8
returns-then-n-gt8 c =
    let a = c.args in
    (rw (lt-leb a.n 8 (omega arith)), power-above a.n)

pub returns-then-bytes-n : goal.returns-then-bytes-n
returns-then-bytes-n c =
    let a = c.args in
    (sym (no_field a.k a.n (length a.bytes.now) (le_field a.k a.n a.bytes.now) (omega arith) (omega arith)), power-above a.n)

pub returns-then-bytes-n-2 : goal.returns-then-bytes-n-2
returns-then-bytes-n-2 c =
    let a = c.args in
    (sym (no_field a.k a.n (length a.bytes.now) (le_field a.k a.n a.bytes.now) (omega arith) (omega arith)), power-above a.n)
