use mathlib.Core.Path.{refl}
use native.Mathlib.Omega.{arith}
use Rattle.journal_line_plain.specs.Plain.{letter_z, number_line}
use Rattle.journal_text.specs.Placing.{line_room}
use Rattle.journal_step.proofs.Calling.{matches-call}
use Rattle.journal_run.proofs.calls.work_reset.Goals as goal

pub returns : goal.returns
returns c =
    matches-call line_room c.args.b.now (λ r. number_line letter_z r.answer) (omega (arith, c.requires)) refl c.reset_guest-answer.ensures c.put_number-k.ensures (rw c.size_of.ensures at c.consumed.ensures)
