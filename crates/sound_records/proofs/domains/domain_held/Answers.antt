use native.Mathlib.Omega.{arith}
use Prim.Native.Nat.{ℕ, ◌%◌, ◌<◌}
use mathlib.Core.Path.{◌≡◌, sym, ◌∙◌}
use mathlib.Core.Bool.{Bool, true, ◌&&◌}
use mathlib.Core.Option.{none}
use lib.Dec.{eqb}
use lib.ListN.{get_or, take}
use lib.Seq.{length-take-le, get_or-take}
use Rattle.laws.specs.Lists.{tab}
use Rattle.laws.proofs.Tests.{both_left, both_right}
use Rattle.laws.proofs.Tables.{length-tab, get_d-tab}
use Rattle.rules.specs.Sizes.{max_endpoints}
use Rattle.rules.specs.State.{Attachment, attachment}
use Rattle.rules.specs.Handlers.{domain_exists, is_in}
use Rattle.laws.proofs.Owned.{owned_at-any}
use Rattle.sound_records.proofs.Attached.{in-attachment}
use Rattle.sound_records.proofs.domains.domain_held.Goals as goal

pub returns-then-s-j : goal.returns-then-s-j
unfolding domain_exists
returns-then-s-j c =
    let a = c.args.s.now in
    let n = a.listed in
    let f : ℕ → Attachment = λ i. attachment (get_or a.attached i 0) (get_or a.domains i 0) in
    let j : ℕ = get_or c.args.hints.now c.slot_of-slot.result 0 % max_endpoints in
    let h : j < n = omega arith in
    let p : Bool = eqb (get_or a.owners j 0) c.args.g.0 in
    let q : Bool = eqb (get_or a.attached j 0) 1 && eqb (get_or a.domains j 0) c.args.d.0 in
    let t : (p && q) ≡ true = c.if-s-j.true in
    sym
    (owned_at-any (is_in c.args.d) none c.args.g.0 (take n a.owners) (tab n f) j (rw (length-take-le n a.owners (omega arith)) h) (rw (length-tab n f) h)
    (rw (get_or-take n a.owners j 0 h) (both_left p q t))
    (rw (get_d-tab n f j none h) (in-attachment c.args.d.0 (get_or a.attached j 0) (get_or a.domains j 0) ∙ both_right p q t)))
