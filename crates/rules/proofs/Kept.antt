-- The configuration as a state holds it says the same as the one that set-up was given.
use Prim.Native.Nat.{ℕ, ◌*◌, ◌≤◌, ◌<◌}
use mathlib.Core.Path.{◌≡◌, refl, ◌∙◌}
use mathlib.Core.Bool.{Bool, true, false, cond}
use native.Mathlib.Omega.{arith}
use lib.Dec.{ltb}
use lib.ListN.{length, get_or, take}
use borrow.Author.Tests.{lt-ltb}
use Rattle.laws.specs.Lists.{sum_below, tab}
use Rattle.laws.proofs.Tables.{get_d-tab, tab-same, sum_same}
use Rattle.rules.specs.declared.Guest.{Guest}
use Rattle.rules.specs.declared.Settings.{Settings}
use Rattle.rules.specs.Sizes.{max_guests, max_regions, endpoint_region_words}
use Rattle.rules.specs.Configuration.{Config, share, window_first, window_last, region_count, regions_at, good}
use Rattle.rules.specs.State.{World, trimmed, trimmed_regions, state_of, write, start}
use Rattle.rules.specs.Guests.{own}
use Rattle.rules.proofs.Groups.{good-facts, good-tests}
use Rattle.rules.proofs.Regions.{region-count, length-held, regions-held, trimmed-again}
use Rattle.rules.proofs.Writing.{kept}

module _ (s : Settings) (few : s.guests ≤ max_guests) where
  in_use : (f : ℕ → ℕ) (g : ℕ) → g < s.guests → get_or (tab max_guests (λ k. cond (ltb k s.guests) (f k) 0)) g 0 ≡ f g
  in_use f g l = get_d-tab max_guests (λ k. cond (ltb k s.guests) (f k) 0) g 0 (omega arith) ∙ rw (lt-ltb g s.guests l)

  pub kept-share : (g : ℕ) → g < s.guests → share (trimmed s) g ≡ share s g
  unfolding trimmed
  kept-share g l = in_use (share s) g l

  pub kept-first : (g : ℕ) → g < s.guests → window_first (trimmed s) g ≡ window_first s g
  unfolding trimmed
  kept-first g l = in_use (window_first s) g l

  pub kept-last : (g : ℕ) → g < s.guests → window_last (trimmed s) g ≡ window_last s g
  unfolding trimmed
  kept-last g l = in_use (window_last s) g l

  pub trimmed-twice : trimmed (trimmed s) ≡ trimmed s
  trimmed-twice = unfold trimmed in rw (again (share s), again (window_first s), again (window_last s))
    where
      twice : (b : Bool) (x : ℕ) → cond b (cond b x 0) 0 ≡ cond b x 0
      twice true x = refl
      twice false x = refl

      again : (f : ℕ → ℕ) → tab max_guests (λ g. cond (ltb g s.guests) (get_or (tab max_guests (λ k. cond (ltb k s.guests) (f k) 0)) g 0) 0) ≡ tab max_guests (λ g. cond (ltb g s.guests) (f g) 0)
      again f = tab-same max_guests _ _ (λ i l. rw (get_d-tab max_guests (λ k. cond (ltb k s.guests) (f k) 0) i 0 l) (twice (ltb i s.guests) (f i)))

module _ (c : Config) (h : good c ≡ true) where
  few-guests : c.settings.guests ≤ max_guests
  few-guests = (good-facts c h).guests.1

  few-regions : (i : ℕ) → i < length c.endpoints → region_count c.regions i ≤ max_regions
  few-regions i l = region-count c.regions i ((good-facts c h).regions i l)

  regions-kept : (i : ℕ) → i < length c.endpoints → regions_at (take (endpoint_region_words * length c.endpoints) (trimmed_regions (length c.endpoints) c.regions)) i ≡ regions_at c.regions i
  regions-kept i l = regions-held (length c.endpoints) (good-facts c h).few c.regions i l (few-regions i l)

  pub good-kept : good (kept c) ≡ true
  good-kept =
      let i = good-facts c h in
      let s = c.settings in
      unfold kept in
      good-tests (record { settings = trimmed s; endpoints = c.endpoints; owners = c.owners; regions = take (endpoint_region_words * length c.endpoints) (trimmed_regions (length c.endpoints) c.regions) })
      (record {
        guests = unfold trimmed in i.guests;
        windows = λ g l. let m : g < s.guests = (unfold trimmed in l) in rw (kept-first s few-guests g m, kept-last s few-guests g m) (i.windows g m);
        windows-apart = λ g k l n. let m : g < s.guests = (unfold trimmed in l) in
            rw (kept-first s few-guests g m, kept-last s few-guests g m, kept-first s few-guests k (omega arith), kept-last s few-guests k (omega arith)) (i.windows-apart g k m n);
        shares = rw sums i.shares;
        mask = unfold trimmed in i.mask;
        input = unfold trimmed in i.input;
        domains = unfold trimmed in i.domains;
        top = unfold trimmed in i.top;
        narrow = unfold trimmed in i.narrow;
        sizes = i.sizes;
        few = i.few;
        owners = unfold trimmed in i.owners;
        distinct = i.distinct;
        region-words = length-held (length c.endpoints) i.few c.regions;
        regions = λ j l. rw (regions-kept j l) (i.regions j l);
      })
    where
      sums : sum_below (trimmed c.settings).guests (share (trimmed c.settings)) ≡ sum_below c.settings.guests (share c.settings)
      sums = unfold trimmed in sum_same c.settings.guests (share (trimmed c.settings)) (share c.settings) (kept-share c.settings few-guests)

  pub own-kept : (g : Guest) → g.0 < c.settings.guests → own (kept c) g ≡ own c g
  own-kept g l =
      unfold own kept in
      rw (kept-share c.settings few-guests g.0 l, kept-first c.settings few-guests g.0 l, kept-last c.settings few-guests g.0 l, tab-same (length c.endpoints) (regions_at (take (endpoint_region_words * length c.endpoints) (trimmed_regions (length c.endpoints) c.regions))) (regions_at c.regions) regions-kept)
      (unfold trimmed in refl)

  regions-again : trimmed_regions (length c.endpoints) (take (endpoint_region_words * length c.endpoints) (trimmed_regions (length c.endpoints) c.regions)) ≡ trimmed_regions (length c.endpoints) c.regions
  regions-again = trimmed-again (length c.endpoints) (good-facts c h).few c.regions

  pub kept-twice : kept (kept c) ≡ kept c
  kept-twice = unfold kept in rw (trimmed-twice c.settings few-guests, regions-again)

  pub state-kept : (w : World) → state_of (kept c) w ≡ state_of c w
  state-kept w = unfold state_of kept in rw (trimmed-twice c.settings few-guests, regions-again)

  pub write_kept : (w : World) → write (kept c) w ≡ write c w
  write_kept w = unfold write in rw (state-kept w)

  pub start-kept : start (kept c) ≡ start c
  start-kept = unfold start kept trimmed in refl
