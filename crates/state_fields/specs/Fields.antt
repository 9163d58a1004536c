-- A state, or settings, with some of the fields replaced, group by group as they change together.
use Rattle.std.specs.Prelude.{ℕ, List}
use Rattle.rules.specs.declared.InputRange.{InputRange}
use Rattle.rules.specs.declared.DomainRange.{DomainRange}
use Rattle.rules.specs.declared.Settings.{Settings}
use Rattle.rules.specs.declared.State.{State}

-- SETTINGS

-- the guests: their count, and the share and the window's two ends of each
abbrev pub with_guests : ℕ → List ℕ → List ℕ → List ℕ → Settings → Settings
with_guests n shares firsts lasts s = record s { guests = n; shares = shares; firsts = firsts; lasts = lasts }

-- what holds for all guests
abbrev pub with_ranges : ℕ → InputRange → DomainRange → Settings → Settings
with_ranges mask input domains s = record s { mask = mask; input = input; domains = domains }

-- THE STATE

abbrev pub with_settings : Settings → State → State
with_settings x s = record s { settings = x }

-- the endpoints: how many are listed, their numbers and their owners
abbrev pub with_lists : ℕ → List ℕ → List ℕ → State → State
with_lists n es os s = record s { listed = n; endpoints = es; owners = os }

-- their attached flags and their domains
abbrev pub with_attached : List ℕ → List ℕ → State → State
with_attached a d s = record s { attached = a; domains = d }

-- the words of the endpoints' regions
abbrev pub with_regions : List ℕ → State → State
with_regions q s = record s { regions = q }

abbrev pub with_live : ℕ → State → State
with_live n s = record s { live = n }

-- the guests' counts of faults and of lost ones
abbrev pub with_counts : List ℕ → List ℕ → State → State
with_counts n l s = record s { logged = n; lost = l }

-- the fault records, by their four fields
abbrev pub with_faults : List ℕ → List ℕ → List ℕ → List ℕ → State → State
with_faults r f e a s = record s { reasons = r; flags = f; sources = e; addresses = a }

-- the logs of all guests: the counts and the fault records
abbrev pub with_logs : List ℕ → List ℕ → List ℕ → List ℕ → List ℕ → List ℕ → State → State
with_logs n l r f e a s = with_counts n l (with_faults r f e a s)
