use native.Mathlib.Omega.{arith}
use Rattle.journal_line_plain.specs.Plain.{letter_z, number_line}
use Rattle.journal_text.specs.Placing.{line_room}
use Rattle.journal_session.specs.Steps.{step_of}
use Rattle.journal_step.proofs.Calling.{early, later, matches-call}
use Rattle.journal_step.proofs.called.reset.Goals as goal

pub returns : goal.returns
unfolding step_of
returns c =
    later c.args.p.now _ c.if-not-p.false
    (matches-call line_room c.args.s.now (λ r. number_line letter_z r.answer) (omega arith) c.if-not-p.false c.reset-answer.ensures c.put_number-k.ensures (cc))

pub returns-then-not-p : goal.returns-then-not-p
returns-then-not-p c =
    unfold step_of in early _ c.if-not-p.true c.unread.ensures
