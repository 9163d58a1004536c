use mathlib.Core.Path.{ap}
use mathlib.Core.Bool.{not}
use Rattle.call_setup.proofs.Started.{start-fields, set-up-length, set-up-bad, set-up-done}
use Rattle.call_setup.proofs.set_up.Goals as goal

pub returns-then-t-ne-TABLE_WORDS : goal.returns-then-t-ne-TABLE_WORDS
returns-then-t-ne-TABLE_WORDS c =
    let a = c.args in
    set-up-length a.settings a.endpoints.now a.owners.now a.regions.now a.t.now c.zero_state.result c.if-t-ne-TABLE_WORDS.true c.zero_state.ensures

pub returns-then-not-is_good : goal.returns-then-not-is_good
returns-then-not-is_good c =
    let x = c.is_good in
    let a = c.args in
    set-up-bad a.settings a.endpoints.now a.owners.now a.regions.now a.t.now c.if-t-ne-TABLE_WORDS.false x.result x.ensures
    c.zero_state-then-not-is_good.result (ap not c.if-not-is_good.true) c.zero_state-then-not-is_good.ensures

pub returns : goal.returns
returns c =
    let m = c.trim-kept in
    let q = c.placed_regions-reserved in
    let e = c.placed_endpoints-numbers in
    let o = c.placed_owners-holders in
    let x = c.is_good in
    let a = c.args in
    set-up-done a.settings a.endpoints.now a.owners.now a.regions.now a.t.now c.if-t-ne-TABLE_WORDS.false x.result x.ensures
    _ c.clear.new.t (ap not c.if-not-is_good.false) c.clear.ensures
    (start-fields a.settings a.endpoints.now a.owners.now a.regions.now c.zero_state-2.result m.result e.result o.result q.result
    c.zero_state-2.ensures m.ensures e.ensures o.ensures q.ensures)
