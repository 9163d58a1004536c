-- The guest's number and its log's count decide; then as many as are held and fit.
use Rattle.call_fetch.proofs.Outcomes.{fetch-of-none, fetch-no-log, fetch-log-past, fetch-gives}
use Rattle.call_fetch.proofs.fetch_faults.Goals as goal

pub returns-then-s-guest : goal.returns-then-s-guest
returns-then-s-guest c =
    let a = c.args in
    fetch-of-none _ a.s.now a.g a.buffer.now c.if-s-guest.true

pub returns-then-guest-ge-MAX_GUESTS : goal.returns-then-guest-ge-MAX_GUESTS
returns-then-guest-ge-MAX_GUESTS c =
    let a = c.args in
    fetch-no-log _ a.s.now a.g a.buffer.now c.if-s-guest.false c.if-guest-ge-MAX_GUESTS.true

pub returns-then-held-gt-MAX_FAULTS : goal.returns-then-held-gt-MAX_FAULTS
returns-then-held-gt-MAX_FAULTS c =
    let a = c.args in
    fetch-log-past _ a.s.now a.g a.buffer.now c.if-s-guest.false c.if-guest-ge-MAX_GUESTS.false c.if-held-gt-MAX_FAULTS.true

pub returns : goal.returns
returns c =
    let a = c.args in
    fetch-gives _ a.s.now a.g a.buffer.now c.if-s-guest.false c.if-guest-ge-MAX_GUESTS.false c.if-held-gt-MAX_FAULTS.false _ _ _ c.min-n.ensures c.put_faults.ensures c.drop_faults.ensures
