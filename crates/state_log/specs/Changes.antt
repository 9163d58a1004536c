-- What a logged fault changes in the state's arrays.
use Rattle.std.specs.Prelude.{ℕ, suc, ◌+◌, ◌*◌, cond, ltb, get_or, set}
use Rattle.rules.specs.Sizes.{max_guests, max_faults, max_lost}
use Rattle.rules.specs.declared.Guest.{Guest}
use Rattle.rules.specs.declared.State.{State}
use Rattle.rules.specs.declared.Fault.{Fault}
use Rattle.state_fields.specs.Fields.{with_counts, with_faults}

-- fault f stored at place i
unfoldable pub fault_stored : State → ℕ → Fault → State
fault_stored s i f =
    with_faults (set s.reasons i f.reason) (set s.flags i f.flags) (set s.sources i f.endpoint.0) (set s.addresses i f.address) s

-- a fault logged for guest g: kept where there is room, else the lost count rises by one until its limit; nothing for a guest number that
-- has no place
unfoldable pub log_fault : State → Guest → Fault → State
log_fault s g f =
    cond (ltb g.0 max_guests)
    (cond (ltb (get_or s.logged g.0 0) max_faults)
    (with_counts (set s.logged g.0 (suc (get_or s.logged g.0 0))) s.lost (fault_stored s (max_faults * g.0 + get_or s.logged g.0 0) f))
    (cond (ltb (get_or s.lost g.0 0) max_lost) (with_counts s.logged (set s.lost g.0 (suc (get_or s.lost g.0 0))) s) s))
    s
