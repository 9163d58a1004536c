use mathlib.Core.Path.{sym, ◌∙◌}
use Rattle.sound.specs.Assembled.{device_of}
use Rattle.sound.proofs.Verdict.{settings-bad, frame-fails}
use Rattle.sound.proofs.is_sound.Goals as goal

pub returns-else-settings_good-clause-value : goal.returns-else-settings_good-clause-value
returns-else-settings_good-clause-value c =
    let d = device_of c.args.s.now c.args.t.now in
    c.if-settings_good.false ∙ sym (frame-fails d (settings-bad d (sym c.settings_good.ensures.value ∙ c.if-settings_good.false)))
