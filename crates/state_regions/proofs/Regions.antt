-- Laws of the regions that words hold for an endpoint.
use Prim.Native.Nat.{ℕ, ◌+◌, ◌≤◌, ◌<◌, min}
use mathlib.Core.Path.{◌≡◌, sym, ap, ◌∙◌}
use mathlib.Core.Bool.{Bool, ◌||◌, or_assoc, or-false}
use mathlib.Core.List.{List}
use native.Mathlib.Omega.{arith}
use lib.ListN.{length, drop, drop_of_length-le, get_or-eq_default}
use borrow.Author.Tests.{lt-ltb}
use Rattle.laws.specs.Lists.{any?, tab}
use Rattle.laws.proofs.Rounds.{drop-next}
use Rattle.laws.proofs.Tables.{length-tab, get_d-tab}
use Rattle.rules.specs.declared.Region.{Region}
use Rattle.rules.specs.Sizes.{max_endpoints, max_regions}
use Rattle.rules.specs.Configuration.{region_count, region_at, regions_at}
use Rattle.state_regions.specs.Held.{held_count, held_regions, held_region, no_region}

module _ (w : List ℕ) (i : ℕ) where
  count-in : i < max_endpoints → held_count w i ≡ min (region_count w i) max_regions
  count-in h = rw (lt-ltb i max_endpoints h)

  pub length-held : length (held_regions w i) ≡ held_count w i
  unfolding held_regions
  length-held = length-tab (held_count w i) (region_at w i)

  pub region-past : (j : ℕ) → held_count w i ≤ j → no_region ≡ held_region w i j
  region-past j h = sym (get_or-eq_default (held_regions w i) no_region (rw length-held h))

  pub region-in : (j : ℕ) → j < held_count w i → held_region w i j ≡ region_at w i j
  unfolding held_regions
  region-in j h = get_d-tab (held_count w i) (region_at w i) j no_region h

  -- where there are no more than four, the regions that the words hold are the endpoint's
  pub held-is : i < max_endpoints → region_count w i ≤ max_regions → held_regions w i ≡ regions_at w i
  unfolding held_regions regions_at
  held-is h k = ap (λ (n : ℕ). tab n (region_at w i)) (count-in h ∙ omega arith)

-- a loop that asks the regions one by one: met says it of those below j
pub record Asked (q : Region → Bool) (w : List ℕ) (i : ℕ) (met : Bool) (j : ℕ) : Type 0 where
  pub within : j ≤ held_count w i
  pub left : any? q (held_regions w i) ≡ (met || any? q (drop j (held_regions w i)))

module _ (q : Region → Bool) (w : List ℕ) (i : ℕ) where
  -- one region more
  pub asked-next : (met b : Bool) (j : ℕ) → Asked q w i met j → j < held_count w i → b ≡ q (held_region w i j) → Asked q w i (met || b) (j + 1)
  asked-next met b j a h e =
      record {
        within = omega arith;
        left = a.left ∙ rw (drop-next (held_regions w i) j no_region (rw (length-held w i) h), e) (sym (or_assoc met _ _));
      }

  pub asked-all : (met : Bool) (j : ℕ) → Asked q w i met j → held_count w i ≤ j → met ≡ any? q (held_regions w i)
  asked-all met j a h = sym (a.left ∙ rw (drop_of_length-le (held_regions w i) {i = j} (rw (length-held w i) h)) (or-false met))
