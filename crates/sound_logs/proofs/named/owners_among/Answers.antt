use native.Mathlib.Omega.{arith}
use mathlib.Core.Path.{refl}
use Rattle.rules.specs.Sizes.{max_endpoints}
use Rattle.state_fields.proofs.Rewriting.{written-store, written_all}
use Rattle.sound_logs.specs.Faults.{owner_among}
use Rattle.sound_logs.proofs.named.owners_among.Goals as goal

pub loop-j-preserved : goal.loop-j-preserved
unfolding owner_among
loop-j-preserved c =
    let a = c.args in
    (omega arith, refl, written-store (owner_among a.s.now.listed a.s.now.owners) _ c.loop-j.j c.loop-j.out c.owner_or_none.result c.loop-j.invariant.2 (omega arith) c.owner_or_none.ensures)

pub returns : goal.returns
returns c =
    let a = c.args in
    written_all (owner_among a.s.now.listed a.s.now.owners) _ max_endpoints c.loop-j.j c.loop-j.out refl (omega arith) c.loop-j.invariant.2
