use mathlib.Core.Path.{refl}
use native.Mathlib.Omega.{arith}
use Rattle.journal_line_call.specs.Lines.{access_line}
use Rattle.journal_text.specs.Placing.{line_room}
use Rattle.journal_step.proofs.Calling.{matches-call}
use Rattle.journal_run.proofs.Calling.{accessed}
use Rattle.journal_run.proofs.calls.work_access.Goals as goal

pub returns : goal.returns
returns c =
    let a = c.args in
    let x = c.make_access-answer.ensures in
    matches-call line_room a.b.now (λ r. access_line r.answer) (omega (arith, c.requires)) refl (accessed a.s.now a.t.now a.a x.value x.s_after) c.put_access-k.ensures (rw c.size_of.ensures at c.consumed.ensures)
