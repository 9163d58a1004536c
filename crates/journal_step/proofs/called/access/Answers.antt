use native.Mathlib.Omega.{arith}
use Rattle.journal_line_call.specs.Lines.{access_line}
use Rattle.journal_text.specs.Placing.{line_room}
use Rattle.journal_session.specs.Steps.{step_of}
use Rattle.journal_step.proofs.Calling.{early, later, matches-call}
use Rattle.journal_step.proofs.called.access.Goals as goal

pub returns : goal.returns
unfolding step_of
returns c =
    later c.args.p.now _ c.if-not-p.false
    (matches-call line_room c.args.s.now (λ r. access_line r.answer) (omega arith) c.if-not-p.false c.access-answer.ensures c.put_access-k.ensures (cc))

pub returns-then-not-p : goal.returns-then-not-p
returns-then-not-p c =
    unfold step_of in early _ c.if-not-p.true c.unread.ensures
