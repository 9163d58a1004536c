use borrow.Author.Rules.{rules}
use mathlib.Core.Path.{◌≡◌, ◌∙◌}
use borrow.Author.Tests.{eq-eqb}
use lib.ListN.{length, replicate}
use Rattle.call_probe.proofs.Put.{padded-properties}
use Rattle.call_probe.proofs.putting.write_properties.Goals as goal

pub returns-then-owned : goal.returns-then-owned
returns-then-owned c =
    let a = c.args in
    let zeros : c.fill.new.self ≡ replicate 128 0 = search rules in
    rw (eq-eqb (length a.out.now) 128 c.if-out-ne-PROPERTIES_SIZE.false, c.if-owned.true)
    (c.put_properties.ensures ∙ rw zeros (padded-properties a.regions.now a.i))
