-- The places of guests and of endpoints in a state, each in use or zero.
use Rattle.std.specs.Prelude.{ℕ, Bool, not, ◌&&◌, ◌||◌, List, [], ◌∷◌, leb, ltb, eqb, get_or}
use Rattle.laws.specs.Lists.{every?}
use Rattle.rules.specs.Sizes.{max_faults, max_lost}
use Rattle.rules.specs.declared.Guest.{Guest}
use Rattle.rules.specs.declared.Endpoint.{Endpoint}
use Rattle.rules.specs.declared.Domain.{Domain}
use Rattle.rules.specs.declared.Settings.{Settings}
use Rattle.rules.specs.declared.DomainRange.{DomainRange}
use Rattle.rules.specs.declared.State.{State}
use Rattle.rules.specs.Configuration.{Config, share, window_first, window_last}
use Rattle.rules.specs.State.{domain_at}
use Rattle.rules.specs.Sound.{attachment_good}

-- a guest's numbers: in use, with log count and lost count within their limits, or zero
unfoldable pub guest_good : Bool → ℕ → ℕ → ℕ → ℕ → ℕ → Bool
guest_good used share first last count lost =
    (used && (leb count max_faults && leb lost max_lost))
    || (not used && every? (eqb share 0 ∷ eqb first 0 ∷ eqb last 0 ∷ eqb count 0 ∷ eqb lost 0 ∷ []))

abbrev pub guest_place : Settings → List ℕ → List ℕ → ℕ → Bool
guest_place s logged lost g = guest_good (ltb g s.guests) (share s g) (window_first s g) (window_last s g) (get_or logged g 0) (get_or lost g 0)

-- a domain range alone: what the test of an attachment looks at
abbrev pub range_alone : DomainRange → Config
range_alone range =
    record {
      settings = record { guests = 0; shares = []; firsts = []; lasts = []; mask = 0; input = record { start = 0; end = 0 }; domains = range };
      endpoints = [];
      owners = [];
      regions = [];
    }

-- an endpoint's numbers: in use, with a good attachment, or zero
unfoldable pub endpoint_good : DomainRange → Bool → Endpoint → Guest → ℕ → Domain → Bool
endpoint_good range used e owner flag d =
    (used && attachment_good (range_alone range) flag d) || (not used && every? (eqb e.0 0 ∷ eqb owner.0 0 ∷ eqb flag 0 ∷ eqb d.0 0 ∷ []))

abbrev pub endpoint_place : State → ℕ → Bool
endpoint_place s i =
    endpoint_good s.settings.domains (ltb i s.listed) (record { 0 = get_or s.endpoints i 0 }) (record { 0 = get_or s.owners i 0 }) (get_or s.attached i 0) (domain_at s i)
