use mathlib.Core.Path.{refl, sym, ◌∙◌}
use mathlib.Core.Bool.{true, false}
use Rattle.rules.proofs.Groups.{frame-facts, place-facts, log_facts}
use Rattle.sound.specs.Assembled.{device_of}
use Rattle.sound.proofs.Verdict.{granted, guests-fit, endpoints-fit, room, frame-fails, places-fail, logs-fail, zeros-fail, records-fail, decided}
use Rattle.sound.proofs.tests_pass.Goals as goal

pub returns-then-not-frame_good : goal.returns-then-not-frame_good
returns-then-not-frame_good c =
    let d = device_of c.args.s.now c.args.t.now in
    sym (frame-fails d (sym c.frame_good.ensures ∙ c.if-not-frame_good.true))

pub returns-then-not-places_good : goal.returns-then-not-places_good
returns-then-not-places_good c =
    let d = device_of c.args.s.now c.args.t.now in
    let f = frame-facts d (sym c.frame_good.ensures ∙ c.if-not-frame_good.false) in
    let listed = granted _ _ false (guests-fit d f) c.places_good.ensures c.if-not-places_good.true in
    sym (places-fail d (granted _ _ false (endpoints-fit d f) refl listed))

pub returns-then-not-faults_good : goal.returns-then-not-faults_good
returns-then-not-faults_good c =
    let d = device_of c.args.s.now c.args.t.now in
    let f = frame-facts d (sym c.frame_good.ensures ∙ c.if-not-frame_good.false) in
    sym (logs-fail d (granted _ _ false (endpoints-fit d f) c.faults_good.ensures c.if-not-faults_good.true))

pub returns-then-not-zero_from : goal.returns-then-not-zero_from
returns-then-not-zero_from c =
    let d = device_of c.args.s.now c.args.t.now in
    sym (zeros-fail d (sym c.zero_from.ensures ∙ c.if-not-zero_from.true))

pub returns-then-not-records_good : goal.returns-then-not-records_good
returns-then-not-records_good c =
    let d = device_of c.args.s.now c.args.t.now in
    let f = frame-facts d (sym c.frame_good.ensures ∙ c.if-not-frame_good.false) in
    sym (records-fail d f (granted _ _ false (room d f) c.records_good.ensures c.if-not-records_good.true))

pub returns : goal.returns
returns c =
    let d = device_of c.args.s.now c.args.t.now in
    let f = frame-facts d (sym c.frame_good.ensures ∙ c.if-not-frame_good.false) in
    let listed = granted _ _ true (guests-fit d f) c.places_good.ensures c.if-not-places_good.false in
    let places = granted _ _ true (endpoints-fit d f) refl listed in
    let logs = granted _ _ true (endpoints-fit d f) c.faults_good.ensures c.if-not-faults_good.false in
    c.regions_good.ensures
    ∙ decided d f (place-facts d.state places) (log_facts d.state logs) (sym c.zero_from.ensures ∙ c.if-not-zero_from.false)
    (granted _ _ true (room d f) c.records_good.ensures c.if-not-records_good.false)
