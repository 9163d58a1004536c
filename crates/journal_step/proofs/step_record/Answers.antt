use Prim.Native.Nat.{◌+◌}
use mathlib.Core.Path.{◌≡◌, refl, sym, ap, ◌∙◌}
use mathlib.Core.Bool.{true}
use native.Mathlib.Omega.{arith}
use borrow.Author.Tests.{leb-true}
use lib.Dec.{leb}
use lib.ListN.{length}
use Rattle.journal_line_call.specs.Lines.{request_line}
use Rattle.journal_line_probe.specs.Lines.{probe_room, probe_lines}
use Rattle.journal_text.specs.Placing.{line_room}
use Rattle.journal_session.specs.Steps.{record_room, step_of}
use Rattle.journal_session.proofs.Matching.{matches-silent, matches-step, matches-full}
use Rattle.journal_step.proofs.Reading.{works, front_fits, asks-few}
use Rattle.journal_step.proofs.step_record.Goals as goal

pub returns-then-not-has_room : goal.returns-then-not-has_room
returns-then-not-has_room c = matches-full _ _ c.args.s.now (cc) c.unread.ensures

-- where the record at the front is looked at, there is room for its lines, and what is told of its item is told of the step
pub request-requires-clause-fits : goal.request-requires-clause-fits
request-requires-clause-fits c = front_fits c.args.s.now (ap works (sym c.front.ensures ∙ c.in-Request.is))

pub request-requires-in-Probe-clause-fits : goal.request-requires-in-Probe-clause-fits
request-requires-in-Probe-clause-fits c = front_fits c.args.s.now (ap works (sym c.front.ensures ∙ c.in-Probe.is))

pub fetch-requires : goal.fetch-requires
fetch-requires c = (rw (sym c.front.ensures ∙ c.in-Fetch.is) at (asks-few c.args.s.now), leb-true _ _ (cc))

pub returns-in-Cut : goal.returns-in-Cut
unfolding step_of
returns-in-Cut c = matches-step _ _ _ (cc) (sym c.front.ensures ∙ c.in-Cut.is) (matches-silent refl c.unread-in-Cut.ensures)

pub returns-in-Wrong : goal.returns-in-Wrong
unfolding step_of
returns-in-Wrong c = matches-step _ _ _ (cc) (sym c.front.ensures ∙ c.in-Wrong.is) (matches-silent refl c.unread-in-Wrong.ensures)

pub returns-in-NamedGuest : goal.returns-in-NamedGuest
returns-in-NamedGuest c = matches-step _ _ _ (cc) (cc) (c.guest.ensures _ _ _)

pub returns-in-NamedEndpoint : goal.returns-in-NamedEndpoint
returns-in-NamedEndpoint c = matches-step _ _ _ (cc) (cc) (c.endpoint.ensures _ _ _)

pub returns-in-Start : goal.returns-in-Start
returns-in-Start c = matches-step _ _ _ (cc) (cc) c.start.ensures

pub returns-in-NamedRegion : goal.returns-in-NamedRegion
returns-in-NamedRegion c = matches-step _ _ _ (cc) (cc) (c.region.ensures _ _ _)

pub returns-in-Request : goal.returns-in-Request
unfolding step_of
returns-in-Request c =
    let room : leb (c.args.at + record_room) (length c.args.out.now) ≡ true = cc in
    matches-step _ _ c.args.s.now room (sym c.front.ensures ∙ c.in-Request.is)
    (c.request.ensures line_room (λ r. request_line r.answer r.buffer) (omega (arith, leb-true _ _ room)) (λ o k x w n left e. (e.1.0, e.1.1)))

pub returns-in-Probe : goal.returns-in-Probe
unfolding step_of
returns-in-Probe c =
    let room : leb (c.args.at + record_room) (length c.args.out.now) ≡ true = cc in
    matches-step _ _ c.args.s.now room (sym c.front.ensures ∙ c.in-Probe.is)
    (c.request-in-Probe.ensures probe_room (λ r. probe_lines r.answer r.buffer) (omega (arith, leb-true _ _ room)) (λ o k x w n left e. e.1))

pub returns-in-AccessBy : goal.returns-in-AccessBy
returns-in-AccessBy c = matches-step _ _ _ (cc) (cc) c.access.ensures

pub returns-in-Reset : goal.returns-in-Reset
returns-in-Reset c = matches-step _ _ _ (cc) (cc) c.reset.ensures

pub returns-in-Fetch : goal.returns-in-Fetch
returns-in-Fetch c = matches-step _ _ _ (cc) (cc) c.fetch.ensures
