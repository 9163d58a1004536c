-- A state that is lent, with its table, as a device.
use Rattle.std.specs.Prelude.{ℕ, List}
use Rattle.rules.specs.declared.State.{State}
use Rattle.rules.specs.State.{Device}

abbrev pub device_of : State → List ℕ → Device
device_of s t = record { state = s; table = t }
