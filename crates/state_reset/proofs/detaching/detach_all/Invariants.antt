-- In both arrays the places below i are rewritten, and the rest of the state is as it was.
use Rattle.state_reset.proofs.detaching.detach_all.Given as goal
use mathlib.Core.Path.{◌≡◌}
use Rattle.state_fields.specs.Fields.{with_attached}
use Rattle.state_reset.proofs.Zeroing.{Zeroed}

abbrev pub invariant-loop-i : goal.invariant-loop-i
invariant-loop-i l =
    record {
      rest : l.s ≡ with_attached l.s.attached l.s.domains l.initial.s;
      flags : Zeroed l.n l.g l.initial.s.owners l.i l.initial.s.attached l.s.attached;
      domains : Zeroed l.n l.g l.initial.s.owners l.i l.initial.s.domains l.s.domains;
    }
