use Rattle.journal_step.proofs.Calling.{early, later, matches-call}
use Rattle.journal_step.proofs.called.request.Goals as goal

pub returns-then-not-p : goal.returns-then-not-p
returns-then-not-p g c room lines h puts =
    early _ c.if-not-p.true c.unread.ensures

pub returns : goal.returns
returns g c room lines h puts =
    later c.args.p.now _ c.if-not-p.false
    (matches-call room c.args.s.now lines h c.if-not-p.false (rw c.size_of-n.ensures at c.request-answer.ensures) (puts _ _ _ _ _ _ c.put-k.ensures)
    (cc))
