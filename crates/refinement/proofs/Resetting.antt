-- A reset, in the parts that it is worked in, is on sound state and table the device's step.
use Prim.Native.Nat.{min}
use mathlib.Core.Path.{◌≡◌, refl, sym, ap, ◌∙◌}
use mathlib.Core.Bool.{Bool, true, false}
use native.Mathlib.Nat.{min-eq_left}
use lib.Dec.{ltb}
use Rattle.rules.specs.declared.Guest.{Guest}
use Rattle.rules.specs.State.{Device, Lengths, config_of}
use Rattle.rules.specs.Sound.{sound}
use Rattle.rules.specs.Sizes.{max_guests}
use Rattle.rules.specs.Device.{reset, of_guest, step}
use Rattle.rules.proofs.Reading.{sound-good}
use Rattle.rules.proofs.Refusals.{no-such-guest}
use Rattle.state_reset.specs.Changes.{guest_cleared}
use Rattle.refinement.specs.Flat.{reset_guest}
use Rattle.refinement.specs.Resetting.{is_guest, reset_answer, logs_reset, domains_reset, reset_whole}
use Rattle.refinement.proofs.Stepped.{reset-step}

pub reset-is-step : (d : Device) → sound d ≡ true → Lengths d.state → (g : Guest) → reset_whole d.state.settings.guests d g ≡ step d (of_guest g reset)
unfolding reset_answer logs_reset domains_reset is_guest
reset-is-step d h k g = go (ltb g.0 d.state.settings.guests) refl
  where
    -- every guest of a sound device has places
    all_have : ltb g.0 (min d.state.settings.guests max_guests) ≡ ltb g.0 d.state.settings.guests
    all_have = ap (λ n. ltb g.0 n) (min-eq_left (unfold config_of in (sound-good d h).guests.1))

    go : (b : Bool) → ltb g.0 d.state.settings.guests ≡ b → reset_whole d.state.settings.guests d g ≡ step d (of_guest g reset)
    go true t = rw (all_have ∙ t) (unfold reset_guest guest_cleared in sym (reset-step d h k g t))
    go false t = rw (all_have ∙ t) (sym (no-such-guest d (of_guest g reset) (unfold config_of in t)))
