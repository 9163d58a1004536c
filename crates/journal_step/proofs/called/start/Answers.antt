use mathlib.Core.Path.{refl, ap}
use mathlib.Core.Bool.{not}
use mathlib.Core.List.{[]}
use native.Mathlib.Omega.{arith}
use Rattle.journal_line_plain.specs.Plain.{letter_s, number_line}
use Rattle.journal_text.specs.Placing.{line_room}
use Rattle.journal_session.specs.Steps.{step_of}
use Rattle.journal_session.proofs.Matching.{refused, accepted}
use Rattle.journal_step.proofs.Calling.{begun, matches-call}
use Rattle.journal_step.proofs.called.start.Goals as goal

pub returns : goal.returns
unfolding step_of
returns c =
    accepted _ _ _ _ _ _ _ _ _ (ap not c.if-p.false)
    (matches-call line_room c.args.s.now (λ r. number_line letter_s r.answer) (omega arith) refl (ap begun c.start-answer.ensures) c.put_number-k.ensures (cc))

pub returns-then-p : goal.returns-then-p
returns-then-p c =
    unfold step_of in refused _ _ _ _ _ _ [] _ (ap not c.if-p.true) c.unread.ensures
