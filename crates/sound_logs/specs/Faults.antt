-- What the test of the fault logs looks at.
use Rattle.std.specs.Prelude.{ℕ, Bool, cond, List, [], ltb, get_or}
use Rattle.rules.specs.Sizes.{max_guests}
use Rattle.rules.specs.declared.Fault.{Fault}
use Rattle.rules.specs.Guests.{Own}
use Rattle.rules.specs.Sound.{guest, fault_good, fault_zero}

-- a guest's endpoints alone: what the test of a fault looks at
abbrev pub endpoints_alone : List ℕ → Own
endpoints_alone es =
    record {
      guest = guest 0;
      share = 0;
      first = 0;
      last = 0;
      mask = 0;
      input = record { start = 0; end = 0 };
      domains = record { start = 0; end = 0 };
      endpoints = es;
      regions = [];
    }

-- place j of a guest's log, of which so many are in use, with the fault f; es are the guest's endpoints
abbrev pub place_good : ℕ → List ℕ → ℕ → Fault → Bool
place_good count es j f = cond (ltb j count) (fault_good (endpoints_alone es) f) (fault_zero f)

-- the owner of the endpoint at place j among the first n; past them a number that is no guest's
unfoldable pub owner_among : ℕ → List ℕ → ℕ → ℕ
owner_among n owners j = cond (ltb j n) (get_or owners j 0) max_guests
