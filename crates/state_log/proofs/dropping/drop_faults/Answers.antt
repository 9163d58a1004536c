-- A guest number that has no place leaves all as it was, and so does a count of 0; else the count falls, and the four arrays are shifted.
use borrow.Author.Rules.{rules}
use lib.Dec.{leb}
use borrow.Author.Tests.{lt-ltb, le-ltb, eq-eqb}
use Rattle.laws.proofs.Tests.{or_right}
use Rattle.rules.specs.Sizes.{max_guests}
use Rattle.state_log.specs.Dropped.{drop_faults}
use Rattle.state_log.proofs.Oldest.{shifted-up, none_dropped}
use Rattle.state_log.proofs.dropping.drop_faults.Goals as goal

pub returns-then-guest-ge-MAX_GUESTS : goal.returns-then-guest-ge-MAX_GUESTS
unfolding drop_faults
returns-then-guest-ge-MAX_GUESTS c = rw (le-ltb c.args.g.0 max_guests c.if-guest-ge-MAX_GUESTS.true)

pub returns-then-k-eq0 : goal.returns-then-k-eq0
returns-then-k-eq0 c = none_dropped _ c.args.g c.args.k (or_right (leb max_guests c.args.g.0) _ (eq-eqb c.args.k 0 c.if-k-eq0.true))

pub returns : goal.returns
unfolding drop_faults
returns c =
    let a = c.args in
    let s = a.s.now in
    rw (
      lt-ltb a.g.0 max_guests c.if-guest-ge-MAX_GUESTS.false,
      c.saturating_sub.ensures,
      shifted-up a.g a.k s.reasons c.shift_out.new.xs _ c.shift_out.ensures (search rules) (search rules),
      shifted-up a.g a.k s.flags c.shift_out-2.new.xs _ c.shift_out-2.ensures (search rules) (search rules),
      shifted-up a.g a.k s.sources c.shift_out-3.new.xs _ c.shift_out-3.ensures (search rules) (search rules),
      shifted-up a.g a.k s.addresses c.shift_out-4.new.xs _ c.shift_out-4.ensures (search rules) (search rules),
    )
