use mathlib.Core.List.{[]}
use mathlib.Core.Path.{sym, ap, ◌∙◌}
use Rattle.rules.specs.declared.State.{State}
use Rattle.refinement.specs.Flat.{device}
use Rattle.call_access.proofs.Stepping.{access-unsound, access-works}
use Rattle.call_access.proofs.access.Goals as goal

pub returns-then-not-is_sound : goal.returns-then-not-is_sound
returns-then-not-is_sound c =
    let a = c.args in
    access-unsound (device a.s.now a.t.now) a.a (sym c.is_sound.ensures.value ∙ c.if-not-is_sound.true)

pub returns : goal.returns
returns c =
    let m = c.make_access in
    let i = c.is_sound.ensures in
    let a = c.args in
    ap (λ (y : State). (record { answer = m.result; buffer = [] }, device y a.t.now)) m.ensures.s_after
    ∙ access-works (device a.s.now a.t.now) a.a (sym i.value ∙ c.if-not-is_sound.false) i.lengths i.by_index m.result m.ensures.value
