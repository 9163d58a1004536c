-- found says whether an endpoint before place j is attached, and the rest are those from j on.
use Rattle.sound_records.proofs.domains.domain_good.Given as goal
use Prim.Native.Nat.{ℕ}
use mathlib.Core.Path.{◌≡◌}
use mathlib.Core.Bool.{◌||◌}
use lib.ListN.{get_or, take, drop}
use Rattle.laws.specs.Lists.{any?, pick_by, tab}
use Rattle.rules.specs.State.{attachment}
use Rattle.rules.specs.Handlers.{is_in}
use Rattle.sound_records.proofs.Attached.{named}

abbrev pub invariant-loop-j : goal.invariant-loop-j
invariant-loop-j l =
    let f = λ (i : ℕ). attachment (get_or l.s.attached i 0) (get_or l.s.domains i 0) in
    any? (is_in (named l.domain)) (pick_by l.guest (take l.s.listed l.s.owners) (tab l.s.listed f))
    ≡ (l.found || any? (is_in (named l.domain)) (pick_by l.guest (drop l.j (take l.s.listed l.s.owners)) (drop l.j (tab l.s.listed f))))
