-- What a guest's reset changes in the state's arrays.
use Rattle.std.specs.Prelude.{ℕ, min, cond, ◌&&◌, List, ltb, eqb, length, get_or, set}
use Rattle.laws.specs.Lists.{tab}
use Rattle.rules.specs.Sizes.{max_guests, max_endpoints, max_faults}
use Rattle.rules.specs.declared.Guest.{Guest}
use Rattle.rules.specs.declared.State.{State}
use Rattle.state_fields.specs.Fields.{with_attached, with_logs}
use Rattle.state_log.specs.Dropped.{shifted_all}

-- an array with zero at the places, below the count, whose owner is g
unfoldable pub zero_of : ℕ → Guest → List ℕ → List ℕ → ℕ → ℕ
zero_of n g owners l i = cond (ltb i n && eqb (get_or owners i 0) g.0) 0 (get_or l i 0)

abbrev pub zeroed_of : ℕ → Guest → List ℕ → List ℕ → List ℕ
zeroed_of n g owners l = tab (length l) (zero_of n g owners l)

-- guest g's endpoints, of those that are listed and have a place, detached
unfoldable pub detach_all : State → Guest → State
detach_all s g =
    with_attached (zeroed_of (min s.listed max_endpoints) g s.owners s.attached) (zeroed_of (min s.listed max_endpoints) g s.owners s.domains) s

-- guest g's log empty, its lost count 0; nothing changes for a guest number that has no place
unfoldable pub clear_log : State → Guest → State
clear_log s g =
    cond (ltb g.0 max_guests)
    (with_logs (set s.logged g.0 0) (set s.lost g.0 0) (shifted_all g max_faults s.reasons) (shifted_all g max_faults s.flags) (shifted_all g max_faults s.sources) (shifted_all g max_faults s.addresses) s)
    s

-- guest g's endpoints detached, its log empty, its lost count 0
unfoldable pub guest_cleared : State → Guest → State
guest_cleared s g = detach_all (clear_log s g) g
