-- A guest is named before the start, where fewer than four are.
use native.Mathlib.Omega.{arith}
use borrow.Author.Tests.{le-ltb, lt-ltb}
use lib.Dec.{ltb}
use Rattle.rules.specs.Sizes.{max_guests}
use Rattle.journal_session.specs.Steps.{step_of}
use Rattle.journal_session.proofs.Matching.{named-late, named_past, named_more}
use Rattle.journal_session.proofs.named.guest.Goals as goal

pub returns-then-p : goal.returns-then-p
unfolding step_of
returns-then-p c =
    let p = c.args.p.now in
    named-late p (ltb p.state.settings.guests max_guests) c.args.s.now _ c.if-p.true c.unread.ensures

pub returns-then-p-ge-MAX_GUESTS : goal.returns-then-p-ge-MAX_GUESTS
unfolding step_of
returns-then-p-ge-MAX_GUESTS c =
    let p = c.args.p.now in
    named_past p (ltb p.state.settings.guests max_guests) c.args.s.now _ (le-ltb p.state.settings.guests max_guests (omega arith)) c.unread-then-p-ge-MAX_GUESTS.ensures

pub returns : goal.returns
unfolding step_of
returns c =
    let p = c.args.p.now in
    named_more p (ltb p.state.settings.guests max_guests) c.args.s.now _ c.if-p.false (lt-ltb p.state.settings.guests max_guests (omega arith))
    (rw (c.if-p.false, c.name_guest.ensures)) _ c.size_of.ensures c.consumed.ensures
