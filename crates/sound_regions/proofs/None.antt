-- No endpoint has a region: every word is zero.
use Prim.Native.Nat.{ℕ, ◌+◌, ◌*◌, ◌<◌, min}
use mathlib.Core.Path.{◌≡◌, refl, ◌∙◌}
use mathlib.Core.Bool.{Bool, true, false, cond, not, ◌||◌}
use mathlib.Core.List.{List, []}
use native.Mathlib.Omega.{arith}
use lib.Dec.{ltb, eqb}
use lib.ListN.{length, get_or, drop, length-take}
use lib.Seq.{get_or-take, get_or-drop}
use Rattle.laws.specs.Lists.{every?, below, tab_from}
use Rattle.laws.proofs.Tests.{both}
use Rattle.laws.proofs.Tables.{below_all}
use Rattle.rules.specs.declared.Mapping.{Mapping}
use Rattle.rules.specs.declared.State.{State}
use Rattle.rules.specs.Sizes.{max_endpoints, max_regions, endpoint_region_words}
use Rattle.rules.specs.Configuration.{region_count, endpoint_regions, used_words}
use Rattle.rules.specs.Sound.{zero_from, region_zeros}
use Rattle.rules.proofs.Zeros.{zero-from, zero-past}
use Rattle.state_regions.specs.Held.{held_count, held_regions}
use Rattle.table_reserved.specs.Reserved.{regions_met}
use Rattle.sound_regions.specs.Clear.{endpoint_clear}

-- an endpoint with no region
pub none-held : (w : List ℕ) (i : ℕ) → held_count w i ≡ 0 → held_regions w i ≡ []
unfolding held_regions tab_from
none-held w i e = rw e

module _ (s : State) (z : zero_from 0 s.regions ≡ true) where
  word : (k : ℕ) → get_or s.regions k 0 ≡ 0
  word k = zero-past 0 s.regions k z (omega arith)

  pub none-unused : every? (region_zeros s) ≡ true
  none-unused =
      both (zero_from (endpoint_region_words * s.listed) s.regions) _ (zero-from (endpoint_region_words * s.listed) s.regions (λ k a b. word k))
      (both (below s.listed _) true (below_all s.listed _ (λ i h. zero-from (used_words s.regions i) (endpoint_regions s.regions i) (λ k a b. of-endpoint i k b))) refl)
    where
      of-endpoint : (i k : ℕ) → k < length (endpoint_regions s.regions i) → get_or (endpoint_regions s.regions i) k 0 ≡ 0
      of-endpoint i k b =
          get_or-take endpoint_region_words (drop (endpoint_region_words * i) s.regions) k 0 (omega (arith, length-take endpoint_region_words (drop (endpoint_region_words * i) s.regions)))
          ∙ get_or-drop (endpoint_region_words * i) s.regions k 0
          ∙ word (endpoint_region_words * i + k)

  count : (i : ℕ) → held_count s.regions i ≡ 0
  count i = go (ltb i max_endpoints)
    where
      go : (b : Bool) → cond b (min (region_count s.regions i) max_regions) 0 ≡ 0
      go true = omega (arith, word (endpoint_region_words * i))
      go false = refl

  pub none-met : (l : List Mapping) → below s.listed (endpoint_clear l s) ≡ true
  unfolding regions_met
  none-met l = below_all s.listed _ (λ i h. rw (none-held s.regions i (count i)) (either (eqb (get_or s.attached i 0) 1)))
    where
      either : (b : Bool) → (not b || true) ≡ true
      either true = refl
      either false = refl
