use Rattle.journal_session.proofs.session.fresh.Goals as goal

pub returns : goal.returns
returns c =
    rw c.zero_state.ensures
