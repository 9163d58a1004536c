use native.Mathlib.Omega.{arith}
use mathlib.Core.Path.{◌≡◌, sym, ap, ◌∙◌}
use mathlib.Core.Option as logic
use Rattle.std.specs.Prelude.{Some}
use lib.ListN.{get_or, take}
use Rattle.laws.specs.Lists.{find}
use Rattle.rules.specs.Table.{records}
use Rattle.rules.specs.Access.{permits, find_mapping}
use Rattle.table_record.specs.Records.{no_mapping}
use Rattle.table_lookup.specs.Outcomes.{found_of}
use Rattle.table_record.proofs.Laws.{gone}
use Rattle.table_lookup.proofs.Passing.{find-yes, find-no}
use Rattle.table_lookup.proofs.find_mapping.Goals as goal

pub returns-then-permits : goal.returns-then-permits
unfolding find_mapping found_of
returns-then-permits c =
    let a = c.args in
    let R = records a.t.now in
    let e = sym (c.permits.ensures ∙ ap (permits a.key a.a) c.get-r.ensures) in
    let f : find (permits a.key a.a) (take a.live R) ≡ logic.some (get_or R c.loop-i.i no_mapping) =
    c.loop-i.invariant.1 ∙ find-yes (permits a.key a.a) no_mapping R a.live c.loop-i.i (omega arith) (e ∙ c.if-permits.true) in
    ap Some c.get-r.ensures ∙ sym (ap found_of f)

pub loop-i-preserved : goal.loop-i-preserved
loop-i-preserved c =
    let a = c.args in
    let e = sym (c.permits.ensures ∙ ap (permits a.key a.a) c.get-r.ensures) in
    (omega arith, c.loop-i.invariant.1 ∙ find-no (permits a.key a.a) no_mapping (records a.t.now) a.live c.loop-i.i (omega arith) (e ∙ c.if-permits.false))

pub returns : goal.returns
unfolding find_mapping found_of
returns c =
    let a = c.args in
    let R = records a.t.now in
    let f : find (permits a.key a.a) (take a.live R) ≡ logic.none = c.loop-i.invariant.1 ∙ rw (gone R a.live c.loop-i.i (omega arith)) in
    sym (ap found_of f)
