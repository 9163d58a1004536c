-- A fetch, on the logs' arrays and the lent buffer.
use Rattle.std.specs.Prelude.{ℕ, Bool, cond, ◌&&◌, List, leb, ltb, length, get_or}
use Rattle.rules.specs.Sizes.{max_guests, max_faults}
use Rattle.rules.specs.declared.Guest.{Guest}
use Rattle.rules.specs.declared.State.{State}
use Rattle.rules.specs.declared.Answer.TheVariants.{Fetched, Refused}
use Rattle.rules.specs.declared.Refusal.{Refusal}
use Rattle.rules.specs.declared.Refusal.TheVariants.{NoSuchGuest, Unsound}
use Rattle.rules.specs.State.{Device}
use Rattle.rules.specs.Device.{Reply}
use Rattle.state_log.specs.Dropped.{drop_faults}
use Rattle.refinement.specs.Flat.{device, fetch_count, fetch_bytes}

-- n of guest g's faults given and gone
unfoldable pub fetched : State → Guest → ℕ → List ℕ → Reply × State
fetched s g n buffer = (record { answer = Fetched n; buffer = fetch_bytes s g n buffer }, drop_faults s g n)

-- a fetch that is refused leaves all as it was
unfoldable pub unfetched : State → Refusal → List ℕ → Reply × State
unfetched s e buffer = (record { answer = Refused e; buffer = buffer }, s)

-- the guest has a log, of no more faults than it has room for
abbrev pub log_fits : State → Guest → Bool
log_fits s g = ltb g.0 max_guests && leb (get_or s.logged g.0 0) max_faults

-- a fetch for guest g, of so many guests; a log that a sound state has not is refused
unfoldable pub fetch_faults : ℕ → State → Guest → List ℕ → Reply × State
fetch_faults guests s g buffer =
    cond (ltb g.0 guests)
    (cond (log_fits s g) (fetched s g (fetch_count s g (length buffer)) buffer) (unfetched s Unsound buffer))
    (unfetched s NoSuchGuest buffer)

-- a fetch for guest g, of so many guests, on a device, whose table stays
abbrev pub fetched_whole : ℕ → Device → Guest → List ℕ → Reply × Device
fetched_whole guests d g buffer = ((fetch_faults guests d.state g buffer).0, device (fetch_faults guests d.state g buffer).1 d.table)
