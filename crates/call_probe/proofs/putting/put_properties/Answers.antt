use mathlib.Core.Path.{◌≡◌, sym, ◌∙◌}
use native.Mathlib.Omega.{arith}
use Rattle.state_regions.specs.Held.{held_count, held_regions, no_region}
use Rattle.state_regions.proofs.Regions.{length-held}
use Rattle.call_probe.proofs.Put.{held-few, written_next, written_all}
use Rattle.call_probe.proofs.putting.put_properties.Goals as goal

pub loop-j-preserved : goal.loop-j-preserved
loop-j-preserved c =
    let l = c.loop-j in
    let a = c.args in
    let w = a.regions.now in
    let few = held-few w a.i in
    written_next (held_regions w a.i) a.out.now l.j l.out c.put_property.new.out no_region c.region_at-q.result (omega (arith, length-held w a.i)) l.invariant (omega (arith, few)) c.region_at-q.ensures c.put_property.ensures

pub returns : goal.returns
returns c =
    let l = c.loop-j in
    let a = c.args in
    let w = a.regions.now in
    let e : l.j ≡ held_count w a.i = omega arith in
    rw (sym e) (written_all (held_regions w a.i) a.out.now l.j l.out l.invariant (length-held w a.i ∙ sym e))
