-- What the test refuses is answered so; what it passes is worked.
use mathlib.Core.Path.{ap, ◌∙◌}
use Rattle.rules.specs.declared.State.{State}
use Rattle.rules.specs.Device as rules
use Rattle.sound.proofs.Checks.{job-refused, job-passes}
use Rattle.refinement.specs.Flat.{device}
use Rattle.refinement.proofs.Fetching.{fetch-is-step}
use Rattle.call_fetch.proofs.fetch.Goals as goal

pub returns-in-Err : goal.returns-in-Err
returns-in-Err c =
    let k = c.check_job in
    let a = c.args in
    job-refused (device a.s.now a.t.now) a.g k.result k.ensures.value (rules.fetch a.buffer.now) c.in-Err.e c.in-Err.is

pub returns : goal.returns
returns c =
    let k = c.check_job in
    let a = c.args in
    let d = device a.s.now a.t.now in
    let p = job-passes d a.g k.result k.ensures.value c.in_default.is in
    ap (λ (x : rules.Reply × State). (x.0, device x.1 a.t.now)) c.fetch_faults.ensures
    ∙ fetch-is-step d p.0 c.in_default.ensures.lengths a.g a.buffer.now
