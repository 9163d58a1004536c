use Prim.Native.Nat.{min}
use borrow.Author.Rules.{rules}
use Rattle.rules.specs.Sizes.{max_endpoints}
use mathlib.Core.Path.{◌≡◌, sym, ap, ◌∙◌}
use lib.ListN.{set}
use Rattle.rules.specs.declared.State.{State}
use Rattle.state_fields.specs.Fields.{with_attached}
use Rattle.state_reset.specs.Changes.{detach_all}
use Rattle.state_reset.proofs.Zeroing.{zero_in, zero-out, zero-last}
use Rattle.state_reset.proofs.detaching.detach_all.Goals as goal
use Rattle.state_reset.proofs.detaching.detach_all.Goals.{then-s-i, else-s-i}

pub loop-i-preserved : goal.loop-i-preserved
loop-i-preserved c =
    let n = c.min-n.result in
    let a = c.args in
    let l = c.loop-i in
    let v = l.invariant in
    let owners : l.s.owners ≡ a.s.now.owners = ap (λ (x : State). x.owners) v.rest in
    elim c.if-s-i.branch [
      | then-s-i w ↦
          let t = zero_in n a.g a.s.now.owners l.i c.loop-i-test.true (rw (sym owners) w.if-s-i.true) in
          record {
            rest = rw w.s-is (ap (λ (x : State). with_attached (set x.attached l.i 0) (set x.domains l.i 0) x) v.rest);
            flags = rw w.s-is (t _ _ v.flags);
            domains = rw w.s-is (t _ _ v.domains);
          }
      | else-s-i w ↦
          let t = zero-out n a.g a.s.now.owners l.i c.loop-i-test.true (rw (sym owners) w.if-s-i.false) in
          record { rest = rw w.s-is v.rest; flags = rw w.s-is (t _ _ v.flags); domains = rw w.s-is (t _ _ v.domains) }
    ]

pub returns : goal.returns
unfolding detach_all
returns c =
    let n = c.min-n in
    let a = c.args in
    let v = c.loop-i.invariant in
    let t = zero-last n.result a.g a.s.now.owners c.loop-i.i c.loop-i-test.false in
    let e : n.result ≡ min a.s.now.listed max_endpoints = search rules in
    v.rest ∙ rw (t _ _ v.flags, t _ _ v.domains, e)
