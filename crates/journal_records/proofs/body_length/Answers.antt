use native.Mathlib.Omega.{arith}
use borrow.Author.Tests.{ne_eqb}
use Rattle.journal_records.specs.Items.{body_length}
use Rattle.journal_records.proofs.body_length.Goals as goal

pub returns-in_default : goal.returns-in_default
unfolding body_length
returns-in_default c =
    let r = c.in_default.in_default-own.rest in (
      rw (
        ne_eqb _ _ r.0.0.0.0.0.0.0.0.0.0.1,
        ne_eqb _ _ r.0.0.0.0.0.0.0.0.0.1,
        ne_eqb _ _ r.0.0.0.0.0.0.0.0.1,
        ne_eqb _ _ r.0.0.0.0.0.0.0.1,
        ne_eqb _ _ r.0.0.0.0.0.0.1,
        ne_eqb _ _ r.0.0.0.0.0.1,
        ne_eqb _ _ r.0.0.0.0.1,
        ne_eqb _ _ r.0.0.0.1,
        ne_eqb _ _ r.0.0.1,
        ne_eqb _ _ r.0.1,
        ne_eqb _ _ r.1,
      ),
      omega arith,
    )

pub returns-in-1 : goal.returns-in-1
unfolding body_length
returns-in-1 c =
    (rw c.in-1.is, omega arith)

pub returns-in-2 : goal.returns-in-2
unfolding body_length
returns-in-2 c =
    (rw c.in-2.is, omega arith)

pub returns-in-3 : goal.returns-in-3
unfolding body_length
returns-in-3 c =
    (rw c.in-3.is, omega arith)

pub returns-in-4 : goal.returns-in-4
unfolding body_length
returns-in-4 c =
    (rw c.in-4.is, omega arith)

pub returns-in-17 : goal.returns-in-17
unfolding body_length
returns-in-17 c =
    (rw c.in-17.is, omega arith)

pub returns-in-18 : goal.returns-in-18
unfolding body_length
returns-in-18 c =
    (rw c.in-18.is, omega arith)

pub returns-in-19 : goal.returns-in-19
unfolding body_length
returns-in-19 c =
    (rw c.in-19.is, omega arith)

pub returns-in-20 : goal.returns-in-20
unfolding body_length
returns-in-20 c =
    (rw c.in-20.is, omega arith)

pub returns-in-33 : goal.returns-in-33
unfolding body_length
returns-in-33 c =
    (rw c.in-33.is, omega arith)

pub returns-in-34 : goal.returns-in-34
unfolding body_length
returns-in-34 c =
    (rw c.in-34.is, omega arith)

pub returns-in-35 : goal.returns-in-35
unfolding body_length
returns-in-35 c =
    (rw c.in-35.is, omega arith)
