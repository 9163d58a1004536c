use native.Mathlib.Omega.{arith}
use Prim.Native.Nat.{ℕ}
use mathlib.Core.Path.{◌≡◌, sym, ◌∙◌}
use mathlib.Core.Bool.{or-false}
use lib.ListN.{length, get_or, take}
use lib.Seq.{length-take-le, get_or-take}
use mathlib.Core.Option.{none}
use Rattle.laws.specs.Lists.{tab}
use Rattle.laws.proofs.Tables.{length-tab, get_d-tab}
use Rattle.rules.specs.State.{Attachment, attachment}
use Rattle.rules.specs.Handlers.{domain_exists, is_in}
use Rattle.laws.proofs.Owned.{owned-on, owned-end}
use Rattle.sound_records.proofs.Attached.{named, in-attachment}
use Rattle.sound_records.proofs.domains.domain_good.Goals as goal

pub loop-j-preserved : goal.loop-j-preserved
loop-j-preserved c =
    let a = c.args.s.now in
    let n = a.listed in
    let f : ℕ → Attachment = λ i. attachment (get_or a.attached i 0) (get_or a.domains i 0) in
    let j = c.loop-j.j in
    let d = c.args.d.0 in
    let g = c.args.g.0 in
    let lo : length (take n a.owners) ≡ n = length-take-le n a.owners (omega arith) in
    let le : length (tab n f) ≡ n = length-tab n f in
    let e = owned-on (is_in (named d)) none g (take n a.owners) (tab n f) j c.loop-j.found (omega arith) (omega arith) in
    let x : get_or (take n a.owners) j 0 ≡ get_or a.owners j 0 = get_or-take n a.owners j 0 (omega arith) in
    let y : get_or (tab n f) j none ≡ f j = get_d-tab n f j none (omega arith) in
    c.loop-j.invariant ∙ e ∙ rw (x, y, in-attachment d (get_or a.attached j 0) (get_or a.domains j 0))

pub returns : goal.returns
unfolding domain_exists
returns c =
    let a = c.args.s.now in
    let n = a.listed in
    let f : ℕ → Attachment = λ i. attachment (get_or a.attached i 0) (get_or a.domains i 0) in
    let lo : length (take n a.owners) ≡ n = length-take-le n a.owners (omega arith) in
    sym (c.loop-j.invariant ∙ rw (owned-end (is_in c.args.d) none c.args.g.0 (take n a.owners) (tab n f) c.loop-j.j (omega arith)) (or-false c.loop-j.found))
