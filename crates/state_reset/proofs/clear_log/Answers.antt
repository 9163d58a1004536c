-- Dropping all of a guest's faults leaves its count at none; a guest number that has no place leaves all as it was.
use borrow.Author.Tests.{lt-ltb, le-ltb}
use mathlib.Core.Path.{ap, ◌∙◌}
use lib.ListN.{set}
use lib.Seq.{set-set}
use Rattle.rules.specs.Sizes.{max_guests}
use Rattle.rules.specs.declared.State.{State}
use Rattle.state_fields.specs.Fields.{with_counts}
use Rattle.state_log.specs.Dropped.{drop_faults}
use Rattle.state_reset.specs.Changes.{clear_log}
use Rattle.state_reset.proofs.clear_log.Goals as goal

pub returns-then-guest-lt-MAX_GUESTS : goal.returns-then-guest-lt-MAX_GUESTS
unfolding clear_log drop_faults
returns-then-guest-lt-MAX_GUESTS c =
    let a = c.args in
    let g = a.g.0 in
    let s = a.s.now in
    ap (λ (x : State). with_counts (set x.logged g 0) (set x.lost g 0) x) c.drop_faults.ensures
    ∙ rw (lt-ltb g max_guests c.if-guest-lt-MAX_GUESTS.true, set-set)

pub returns-else-guest-lt-MAX_GUESTS : goal.returns-else-guest-lt-MAX_GUESTS
unfolding clear_log drop_faults
returns-else-guest-lt-MAX_GUESTS c = c.drop_faults.ensures ∙ rw (le-ltb c.args.g.0 max_guests c.if-guest-lt-MAX_GUESTS.false)
