use mathlib.Core.Path.{refl, ◌∙◌}
use Rattle.rules.specs.State.{Device}
use Rattle.rules.specs.Device.{request}
use Rattle.sound.proofs.Checks.{job-refused, job-passes}
use Rattle.refinement.specs.Flat.{device}
use Rattle.refinement.proofs.Stepped.{request-step}
use Rattle.call_request.proofs.request.Goals as goal

pub returns-in-Err : goal.returns-in-Err
returns-in-Err c =
    let a = c.args in
    job-refused (device a.s.now a.t.now) a.g _ c.in-Err.ensures.value (request a.readable.now a.writable.now) c.in-Err.e refl

pub returns : goal.returns
returns c =
    let a = c.args in
    let d : Device = device a.s.now a.t.now in
    let passed = job-passes d a.g _ c.in_default.ensures.value refl in
    c.serve.ensures ∙ request-step d passed.0 c.in_default.ensures.lengths a.g a.readable.now a.writable.now
