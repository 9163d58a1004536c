use mathlib.Core.Path.{refl}
use Rattle.journal_step.proofs.Calling.{matches-call}
use Rattle.journal_run.proofs.calls.work_request.Goals as goal

pub returns : goal.returns
returns g c room lines h puts =
    matches-call room c.args.b.now lines h refl (rw c.size_of-n.ensures at c.serve-answer.ensures) (puts _ _ _ _ _ _ c.put-k.ensures) (rw c.size_of-n.ensures at c.consumed.ensures)
