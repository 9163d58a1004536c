use native.Mathlib.Omega.{arith}
use mathlib.Core.Path.{◌≡◌, sym, ap, ◌∙◌}
use mathlib.Core.Bool.{true}
use lib.ListN.{get_or, take, drop, length-take}
use Rattle.rules.specs.Table.{records, before}
use Rattle.table_record.specs.Records.{no_mapping}
use Rattle.table_insert.specs.Inserted.{mapping_index}
use Rattle.table_record.proofs.Laws.{to-go}
use Rattle.table_insert.proofs.insertion_index.Goals as goal

pub returns-then-precedes : goal.returns-then-precedes
returns-then-precedes c =
    let a = c.args in
    let R = records a.t.now in
    let g = to-go no_mapping R a.live c.loop-i.i (omega (arith, length-take a.live R)) in
    let b : before a.r (get_or R c.loop-i.i no_mapping) ≡ true = sym (c.precedes.ensures ∙ ap (before a.r) c.get.ensures) ∙ c.if-precedes.true in
    let e : mapping_index a.r (drop c.loop-i.i (take a.live R)) ≡ 0 = ap (mapping_index a.r) g ∙ rw b in
    (omega arith, omega arith)
