-- What a device that runs keeps from record to record.
use Rattle.std.specs.Prelude.{◌≡◌, ℕ, ◌≤◌, true}
use Rattle.rules.specs.declared.Settings.{Settings}
use Rattle.rules.specs.Sizes.{top_address}
use Rattle.rules.specs.Configuration.{window_last}
use Rattle.rules.specs.State.{Device, Lengths}
use Rattle.rules.specs.Sound.{sound}

-- the last addresses of the windows are numbers of 64 bits
abbrev pub Wide : Settings → Type 0
Wide s = (i : ℕ) → window_last s i ≤ top_address

-- state and table are sound, and the numbers and arrays are of their types
pub record Ready (d : Device) : Type 0 where
  pub on : sound d ≡ true
  pub shape : Lengths d.state
  pub wide : Wide d.state.settings
