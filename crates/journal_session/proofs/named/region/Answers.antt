-- A region is named before the start, where its endpoint is and has fewer than four.
use mathlib.Core.Path.{◌≡◌, sym, ◌∙◌}
use mathlib.Core.Bool.{Bool, true, false}
use Rattle.rules.specs.declared.Endpoint.{Endpoint}
use Rattle.rules.specs.declared.State.{State}
use Rattle.journal_session.specs.Naming.{region_taken}
use Rattle.journal_session.specs.Steps.{step_of}
use Rattle.journal_session.proofs.Matching.{named-late, named_past, named_more}
use Rattle.journal_session.proofs.named.region.Goals as goal

-- the endpoint may have one region more
abbrev may : State → Endpoint → Bool
may s e = region_taken s.listed s.endpoints s.regions e

pub returns-then-p : goal.returns-then-p
unfolding step_of
returns-then-p c =
    let p = c.args.p.now in
    named-late p (may p.state c.args.e) c.args.s.now _ c.if-p.true c.unread.ensures

pub returns-then-not-name_region : goal.returns-then-not-name_region
unfolding step_of
returns-then-not-name_region c =
    let p = c.args.p.now in
    let no : c.name_region.result ≡ false = c.if-not-name_region.true in
    rw (rw no at c.name_region.ensures.named)
    (named_past p (may p.state c.args.e) c.args.s.now _ (sym c.name_region.ensures.taken ∙ no) c.unread-then-not-name_region.ensures)

pub returns : goal.returns
unfolding step_of
returns c =
    let p = c.args.p.now in
    let yes : c.name_region.result ≡ true = c.if-not-name_region.false in
    named_more p (may p.state c.args.e) c.args.s.now _ c.if-p.false (sym c.name_region.ensures.taken ∙ yes)
    (rw (c.if-p.false, rw yes at c.name_region.ensures.named)) _ c.size_of.ensures c.consumed.ensures
