-- Worked examples of request 2, "The standard aligns virt_start, phys_start and virt_end + 1. Answer RANGE; soundness follows."
use Rattle.std.specs.Prelude.{ℕ, ◌-◌, ◌^◌, ◌≡◌, refl, Bool, List, [], ◌∷◌, eqb}
use mathlib.Core.List as L
use Rattle.std.proofs.Math.Option.{some}
use Rattle.std.specs.Int.Count.{count_trailing_zeros}
use Rattle.rules.specs.declared.Domain.{Domain}
use Rattle.rules.specs.declared.Mapping.{Mapping}
use Rattle.rules.specs.State.{no_log}
use Rattle.rules.specs.Guests.{Own, Part}
use Rattle.rules.specs.Requests.{OK, RANGE, FAULT}
use Rattle.rules.specs.Handlers.{settle, outside, is_in, domain_exists, on_region, granularity, form_steps, handle_map}
use Rattle.rules.specs.Sound.{guest, record_good}

-- a mask, a window from first to 0x8fffffff, and the status of a MAP of one page to phys
pub record Example : Type 0 where
  pub mask : ℕ
  pub first : ℕ
  pub phys : ℕ
  pub wants : ℕ

pub examples : List Example
examples =
    -- in the window
    record { mask = 0x1000; first = 0x80000000; phys = 0x8000a000; wants = OK }
    ∷ record { mask = 0x1000; first = 0x80000000; phys = 0x8000a001; wants = RANGE }
    ∷ record { mask = 0x1000; first = 0x80000000; phys = 0x80000800; wants = RANGE }
    ∷ record { mask = 0x1000; first = 0x80000000; phys = 0x80000fff; wants = RANGE }
    -- outside it: step 4 comes before step 6
    ∷ record { mask = 0x1000; first = 0x80000000; phys = 0x70000001; wants = RANGE }
    ∷ record { mask = 0x1000; first = 0x80000000; phys = 0x70000000; wants = FAULT }
    ∷ record { mask = 0x1000; first = 0x80000000; phys = 2 ^ 64 - 1; wants = RANGE }
    -- a window that starts off the granularity
    ∷ record { mask = 0x1000; first = 0x80000800; phys = 0x80000800; wants = RANGE }
    ∷ record { mask = 0x1000; first = 0x80000800; phys = 0x80000000; wants = FAULT }
    ∷ record { mask = 0x1000; first = 0x80000800; phys = 0x80001000; wants = OK }
    -- every number is a multiple of 1
    ∷ record { mask = 1; first = 0x80000000; phys = 0x8000a001; wants = OK }
    ∷ record { mask = 1; first = 0x80000000; phys = 0x70000001; wants = FAULT }
    -- of several bits the lowest
    ∷ record { mask = 0x3000; first = 0x80000000; phys = 0x80001000; wants = OK }
    ∷ record { mask = 0x3000; first = 0x80000000; phys = 0x80000800; wants = RANGE }
    ∷ []

-- the guest, with one endpoint, which is in domain 0
owner : Example → Own
owner e =
    record {
      guest = guest 0;
      share = 1;
      first = e.first;
      last = 0x8fffffff;
      mask = e.mask;
      input = record { start = 0; end = 2 ^ 64 - 1 };
      domains = record { start = 0; end = 0 };
      endpoints = 8 ∷ [];
      regions = [] ∷ [];
    }

domain : Domain
domain = record { 0 = 0 }

-- the page's record
page : Example → Mapping
page e = record { key = 0; start = 0x1000; end = 0x1fff; phys = e.phys; flags = 1 }

-- the guest's part, before its first MAP
fresh : Part
fresh = record { attachments = some domain ∷ []; records = []; log = no_log }

-- the status that MAP gives
pub shown : Example → ℕ
shown e = (handle_map (owner e) fresh domain (page e)).0

pub wanted : Example → ℕ
wanted e = e.wants

pub worked_examples : L.map shown examples ≡ L.map wanted examples
unfolding shown wanted examples owner domain page fresh count_trailing_zeros settle outside is_in domain_exists on_region granularity form_steps handle_map
worked_examples = refl

-- whether a sound table may hold the record
pub held : Example → Bool
held e = record_good (owner e) fresh.attachments (page e)

-- "soundness follows": it may exactly where MAP would record it
pub wanted_held : Example → Bool
wanted_held e = eqb e.wants OK

pub soundness_follows : L.map held examples ≡ L.map wanted_held examples
unfolding held wanted_held examples owner domain page fresh count_trailing_zeros outside is_in domain_exists granularity form_steps record_good
soundness_follows = refl
