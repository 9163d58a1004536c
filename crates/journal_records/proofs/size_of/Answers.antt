use mathlib.Core.Path.{sym}
use native.Mathlib.Numerals.{add-one}
use native.Mathlib.Omega.{arith}
use Rattle.journal_records.proofs.Fields.{size_none}
use Rattle.journal_records.proofs.size_of.Goals as goal

pub returns-then-s-eq0 : goal.returns-then-s-eq0
returns-then-s-eq0 c = sym (size_none c.args.s.now (omega arith))

pub returns : goal.returns
returns c = rw (c.body_length.ensures.0, add-one)
