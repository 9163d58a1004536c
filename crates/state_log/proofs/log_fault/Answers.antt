-- The guest's number and the log's count decide which of the four outcomes it is.
use native.Mathlib.Numerals.{add-one}
use borrow.Author.Tests.{lt-ltb, le-ltb}
use lib.ListN.{get_or}
use Rattle.rules.specs.Sizes.{max_guests, max_faults, max_lost}
use Rattle.state_log.specs.Changes.{fault_stored, log_fault}
use Rattle.state_log.proofs.log_fault.Goals as goal

pub returns-then-guest-ge-MAX_GUESTS : goal.returns-then-guest-ge-MAX_GUESTS
unfolding log_fault
returns-then-guest-ge-MAX_GUESTS c = rw (le-ltb c.args.g.0 max_guests c.if-guest-ge-MAX_GUESTS.true)

pub returns-then-n-lt-MAX_FAULTS : goal.returns-then-n-lt-MAX_FAULTS
unfolding log_fault fault_stored
returns-then-n-lt-MAX_FAULTS c =
    let a = c.args in
    let n = get_or a.s.now.logged a.g.0 0 in
    rw (lt-ltb a.g.0 max_guests c.if-guest-ge-MAX_GUESTS.false, lt-ltb n max_faults c.if-n-lt-MAX_FAULTS.true, add-one n)

pub returns-then-k-lt-MAX_LOST : goal.returns-then-k-lt-MAX_LOST
unfolding log_fault
returns-then-k-lt-MAX_LOST c =
    let a = c.args in
    let k = get_or a.s.now.lost a.g.0 0 in
    rw (lt-ltb a.g.0 max_guests c.if-guest-ge-MAX_GUESTS.false, le-ltb (get_or a.s.now.logged a.g.0 0) max_faults c.if-n-lt-MAX_FAULTS.false, lt-ltb k max_lost c.if-k-lt-MAX_LOST.true, add-one k)

pub returns-else-k-lt-MAX_LOST : goal.returns-else-k-lt-MAX_LOST
unfolding log_fault
returns-else-k-lt-MAX_LOST c =
    let a = c.args in
    rw (lt-ltb a.g.0 max_guests c.if-guest-ge-MAX_GUESTS.false, le-ltb (get_or a.s.now.logged a.g.0 0) max_faults c.if-n-lt-MAX_FAULTS.false, le-ltb (get_or a.s.now.lost a.g.0 0) max_lost c.if-k-lt-MAX_LOST.false)
