-- What the oldest faults leave behind in the state's arrays when they go.
use Rattle.std.specs.Prelude.{ℕ, ◌+◌, ◌-◌, ◌/◌, ◌%◌, cond, List, ltb, eqb, length, get_or, set}
use Rattle.laws.specs.Lists.{tab}
use Rattle.rules.specs.Sizes.{max_guests, max_faults}
use Rattle.rules.specs.declared.Guest.{Guest}
use Rattle.rules.specs.declared.State.{State}
use Rattle.state_fields.specs.Fields.{with_counts, with_faults}

-- the place that what stands at place i of guest g's faults comes from when the k oldest go: i itself for another guest,
-- k places on for guest g; none (zero) where that is past the guest's places
unfoldable pub shifted : Guest → ℕ → List ℕ → ℕ → ℕ
shifted g k l i = cond (eqb (i / max_faults) g.0) (cond (ltb (i % max_faults + k) max_faults) (get_or l (i + k) 0) 0) (get_or l i 0)

abbrev pub shifted_all : Guest → ℕ → List ℕ → List ℕ
shifted_all g k l = tab (length l) (shifted g k l)

-- guest g's k oldest faults gone; nothing for a guest number that has no place
unfoldable pub drop_faults : State → Guest → ℕ → State
drop_faults s g k =
    cond (ltb g.0 max_guests)
    (with_counts (set s.logged g.0 (get_or s.logged g.0 0 - k)) s.lost
    (with_faults (shifted_all g k s.reasons) (shifted_all g k s.flags) (shifted_all g k s.sources) (shifted_all g k s.addresses) s))
    s
