-- The test that comes before every job of a guest's.
use Rattle.std.specs.Prelude.{cond, not, ltb, Result, Ok, Err}
use Rattle.rules.specs.declared.Guest.{Guest}
use Rattle.rules.specs.declared.Refusal.{Refusal}
use Rattle.rules.specs.declared.Refusal.TheVariants.{NoSuchGuest, Unsound}
use Rattle.rules.specs.State.{Device}
use Rattle.rules.specs.Sound.{sound}

-- "Requests: 1, 2, [..]. Reset and fetch: 1, 2.": the guest's number, then state and table
abbrev pub job_checked : Device → Guest → Result (Unit {0}) Refusal
job_checked d g = cond (not (ltb g.0 d.state.settings.guests)) (Err NoSuchGuest) (cond (not (sound d)) (Err Unsound) (Ok tt))
