-- A fetch on the logs' arrays is on sound state and table the device's step.
use Prim.Native.Nat.{ℕ, ◌≤◌}
use mathlib.Core.Path.{◌≡◌, refl, sym}
use mathlib.Core.Bool.{Bool, true, false}
use mathlib.Core.List.{List}
use native.Mathlib.Omega.{arith}
use lib.Dec.{ltb}
use lib.ListN.{get_or}
use borrow.Author.Tests.{ltb-true, lt-ltb, le-leb}
use Rattle.laws.proofs.Tests.{both}
use Rattle.rules.specs.declared.Guest.{Guest}
use Rattle.rules.specs.Sizes.{max_guests, max_faults}
use Rattle.rules.specs.State.{Device, Lengths, config_of}
use Rattle.rules.specs.Sound.{sound}
use Rattle.rules.specs.Device.{fetch, of_guest, step}
use Rattle.rules.proofs.Groups.{sound-facts}
use Rattle.rules.proofs.Reading.{sound-good}
use Rattle.rules.proofs.Refusals.{no-such-guest}
use Rattle.refinement.specs.Fetching.{log_fits, fetched, unfetched, fetch_faults, fetched_whole}
use Rattle.refinement.proofs.Answered.{fetch-step}

-- a guest's log in a sound state is one that it has room for
log-fits : (d : Device) → sound d ≡ true → (g : Guest) → ltb g.0 d.state.settings.guests ≡ true → log_fits d.state g ≡ true
log-fits d h g t =
    let below = ltb-true g.0 d.state.settings.guests t in
    let few : d.state.settings.guests ≤ max_guests = unfold config_of in (sound-good d h).guests.1 in
    both (ltb g.0 max_guests) _ (lt-ltb g.0 max_guests (omega (arith, few, below))) (le-leb (get_or d.state.logged g.0 0) max_faults ((sound-facts d h).places.counts g.0 below))

pub fetch-is-step : (d : Device) → sound d ≡ true → Lengths d.state → (g : Guest) (b : List ℕ) → fetched_whole d.state.settings.guests d g b ≡ step d (of_guest g (fetch b))
unfolding fetch_faults fetched unfetched
fetch-is-step d h k g b = go (ltb g.0 d.state.settings.guests) refl
  where
    go : (t : Bool) → ltb g.0 d.state.settings.guests ≡ t → fetched_whole d.state.settings.guests d g b ≡ step d (of_guest g (fetch b))
    go true t = rw (t, log-fits d h g t) (sym (fetch-step d h k g b t))
    go false t = rw t (sym (no-such-guest d (of_guest g (fetch b)) (unfold config_of in t)))
