-- A guest's reset, in the parts that it is worked in: the answer, the logs, and the endpoints with the records.
use Rattle.std.specs.Prelude.{ℕ, min, Bool, cond, [], ltb}
use Rattle.rules.specs.Sizes.{max_guests}
use Rattle.rules.specs.declared.Guest.{Guest}
use Rattle.rules.specs.declared.State.{State}
use Rattle.rules.specs.declared.Answer.{Answer}
use Rattle.rules.specs.declared.Answer.TheVariants.{Done, Refused}
use Rattle.rules.specs.declared.Refusal.TheVariants.{NoSuchGuest}
use Rattle.rules.specs.State.{Device}
use Rattle.rules.specs.Device.{Reply}
use Rattle.state_reset.specs.Changes.{clear_log, detach_all}
use Rattle.refinement.specs.Flat.{device, records_cleared}

-- guest g is one of so many, and has places
unfoldable pub is_guest : ℕ → Guest → Bool
is_guest guests g = ltb g.0 (min guests max_guests)

-- what a reset of guest g, of so many guests, is answered
unfoldable pub reset_answer : ℕ → Guest → Answer
reset_answer guests g = cond (is_guest guests g) Done (Refused NoSuchGuest)

-- the state with guest g's log emptied, where g is a guest of so many
unfoldable pub logs_reset : ℕ → State → Guest → State
logs_reset guests s g = cond (is_guest guests g) (clear_log s g) s

-- the device with guest g's endpoints detached and its records gone, where g is a guest of so many
unfoldable pub domains_reset : ℕ → Device → Guest → Device
domains_reset guests d g =
    cond (is_guest guests g)
    (records_cleared (device (detach_all d.state g) d.table) g)
    d

-- a reset of guest g, of so many guests: the reply, and the device afterwards
abbrev pub reset_whole : ℕ → Device → Guest → Reply × Device
reset_whole guests d g = (record { answer = reset_answer guests g; buffer = [] }, domains_reset guests (device (logs_reset guests d.state g) d.table) g)
