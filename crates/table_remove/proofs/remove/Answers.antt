use mathlib.Core.Path.{◌≡◌, ap, ◌∙◌}
use lib.ListN.{length}
use Rattle.rules.specs.Table.{words}
use Rattle.table_remove.specs.Removed.{kept_of}
use Rattle.table_remove.proofs.Removed.{kept-bounded, removed-by}
use Rattle.table_remove.proofs.remove.Goals as goal

pub returns : goal.returns
returns c =
    let f = c.clear in
    let u = c.close_up-kept in
    let b = c.bounded-n in
    let a = c.args in
    let e : kept_of b.result a.low a.high a.a a.b a.t.now ≡ kept_of a.live a.low a.high a.a a.b a.t.now =
    rw b.ensures.0 (kept-bounded a.live a.low a.high a.a a.b a.t.now) in
    let k : u.result ≡ length (kept_of a.live a.low a.high a.a a.b a.t.now) = u.ensures.value.0 ∙ ap length e in
    record {
      value = k;
      t_after = removed-by a.live a.low a.high a.a a.b a.t.now c.close_up-kept.new.t c.clear.new.t b.result u.result
          b.ensures.0 u.auto.t k (u.ensures.t_after.0 ∙ ap words e) u.ensures.t_after.1 f.ensures;
    }
