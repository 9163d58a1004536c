-- A record in itself, and the records of one domain that go on one after another.
use Rattle.std.specs.Prelude.{ℕ, suc, Bool, cond, ◌&&◌, List, [], ◌∷◌, ltb, eqb}
use Rattle.laws.specs.Lists.{first_failing}
use Rattle.rules.specs.declared.Mapping.{Mapping}
use Rattle.rules.specs.declared.Settings.{Settings}
use Rattle.rules.specs.Configuration.{window_first, window_last}
use Rattle.rules.specs.Guests.{Own}
use Rattle.rules.specs.Handlers.{form_steps}
use Rattle.rules.specs.Sound.{guest, passes}
use Rattle.map_steps.specs.declared.limits.Limits.{Limits}

-- a guest's limits alone: what steps 2 to 6 of MAP look at
abbrev pub limits_of : Limits → Own
limits_of l =
    record { guest = guest 0; share = 0; first = l.first; last = l.last; mask = l.mask; input = l.input; domains = record { start = 0; end = 0 }; endpoints = []; regions = [] }

-- the limits of the guest with number g
abbrev pub limits_at : Settings → ℕ → Limits
limits_at s g = record { mask = s.mask; input = s.input; first = window_first s g; last = window_last s g }

-- steps 2 to 6 of MAP pass, within these limits
unfoldable pub form_good : Limits → Mapping → Bool
form_good l r = passes (first_failing (form_steps (limits_of l) r))

-- how many records go on with the domain of a key after one that ends at `end`: each of that key, past the end of the one
-- before, and good in itself
abbrev pub run : (Mapping → Bool) → ℕ → ℕ → List Mapping → ℕ
run form key end [] = 0
run form key end (r ∷ l) = cond (eqb r.key key && (ltb end r.start && form r)) (suc (run form key r.end l)) 0
