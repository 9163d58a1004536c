-- Sound state and table hold a whole world.
use Prim.Native.Nat.{ℕ, ◌+◌, ◌*◌, ◌/◌, ◌%◌, ◌≤◌, ◌<◌}
use mathlib.Core.Path.{◌≡◌, refl, sym, ap, subst, ◌∙◌}
use mathlib.Core.Bool.{Bool, true, false, cond, not, ◌&&◌, ◌||◌}
use mathlib.Core.Option.{some, none}
use mathlib.Core.Logic.{◌⊎◌, inl, inr}
use native.Mathlib.Omega.{arith}
use lib.Dec.{ltb, eqb}
use lib.ListN.{length, get_or}
use borrow.Author.Tests.{eqb-true, lt-ltb}
use Rattle.laws.specs.Lists.{all?, pick_by}
use Rattle.laws.proofs.Tests.{both_left, both_right, or_cases, or_left, or_right}
use Rattle.laws.proofs.Filters.{all-imp, all_keep, all-kept, pairwise-keep}
use Rattle.laws.proofs.Tables.{length-tab, get_d-tab, all-tab}
use Rattle.laws.proofs.Owners.{owner-among, all-pick_by, length-pick_by}
use Rattle.rules.specs.declared.Guest.{Guest}
use Rattle.rules.specs.declared.Mapping.{Mapping}
use Rattle.rules.specs.Sizes.{max_guests, max_faults}
use Rattle.rules.specs.Configuration.{Config}
use Rattle.rules.specs.Table.{guest_of, domain_of, before, apart}
use Rattle.rules.specs.State.{Device, no_log, config_of, attachment, attachment_at, fault_at, log_at, read}
use Rattle.rules.specs.Guests.{own, part}
use Rattle.rules.specs.Handlers.{outside, is_in, domain_exists}
use Rattle.rules.specs.Sound.{guest, record_good, record_passes, off_regions, record_clear, attachment_good, in_range, flag_good, fault_good, fault_zero, fault_used, fault_place_good, sound}
use Rattle.rules.proofs.Records.{mine, before-upward}
use Rattle.rules.proofs.Groups.{Good, good-facts, Framed, Sound, sound-facts, LogFacts, Common}
use Rattle.rules.proofs.Parts.{record-exists}
use Rattle.rules.proofs.Worlds.{Whole}

module _ (d : Device) where
  -- there is an attachment for each owner, where the frame is as asked
  pub frame-sizes : Framed d → length (read d).attachments ≡ length (config_of d.state).owners
  frame-sizes f = unfold read in length-tab d.state.listed (attachment_at d.state) ∙ sym f.listed ∙ (good-facts (config_of d.state) f.config).sizes

  pub log-read : (g : ℕ) → g < d.state.settings.guests → get_or (read d).logs g no_log ≡ log_at d.state g
  log-read g l = unfold read in get_d-tab d.state.settings.guests (log_at d.state) g no_log l

module _ (d : Device) (h : sound d ≡ true) where
  abbrev config : Config
  config = config_of d.state

  facts : Sound d
  facts = sound-facts d h

  pub sound-good : Good (config_of d.state)
  sound-good = good-facts (config_of d.state) facts.frame.config

  pub sound-listed : length (config_of d.state).endpoints ≡ d.state.listed
  sound-listed = facts.frame.listed

  attached-in-range : (flag n : ℕ) (g : Guest) → attachment_good config flag (record { 0 = n }) ≡ true → in_range (own config g) (attachment flag n) ≡ true
  unfolding attachment_good
  attached-in-range flag n g k = go (eqb flag 1) refl (or_cases (eqb flag 1 && not (outside config.settings.domains.start config.settings.domains.end n)) (eqb flag 0 && eqb n 0) k)
    where
      go : (b : Bool) → eqb flag 1 ≡ b → ((eqb flag 1 && not (outside config.settings.domains.start config.settings.domains.end n)) ≡ true) ⊎ ((eqb flag 0 && eqb n 0) ≡ true)
          → in_range (own config g) (cond b (some (record { 0 = n })) none) ≡ true
      go true e (inl a) = unfold in_range own in both_right (eqb flag 1) _ a
      go true e (inr a) = absurd (omega (arith, eqb-true flag 1 e, eqb-true flag 0 (both_left (eqb flag 0) _ a)))
      go false e a = unfold in_range in refl

  all-in-range : (g : Guest) → all? (in_range (own config g)) (read d).attachments ≡ true
  all-in-range g = unfold read in all-tab (in_range (own config g)) d.state.listed (attachment_at d.state) (λ i l. attached-in-range _ _ g (facts.places.attachments i l))

  sizes : length (read d).attachments ≡ length config.owners
  sizes = frame-sizes d facts.frame

  record-guest : (r : Mapping) → record_passes config (read d) r ≡ true → guest_of r < config.settings.guests
  record-guest r k = unfold domain_exists in owner-among (is_in (domain_of r)) config.settings.guests (guest_of r) config.owners (read d).attachments sound-good.owners (unfold part in record-exists (own config (guest (guest_of r))) (part config (guest (guest_of r)) (read d)).attachments r k)

  all-of-guests : all? (λ r. ltb (guest_of r) config.settings.guests) (read d).records ≡ true
  all-of-guests = all-imp (record_passes config (read d)) (λ r. ltb (guest_of r) config.settings.guests) (read d).records (λ r k. lt-ltb _ _ (record-guest r k)) facts.records.passing

  of_guest : (r : Mapping) (g : Guest) → guest (guest_of r) ≡ g → record_passes config (read d) r ≡ true → record_good (own config g) (pick_by g.0 config.owners (read d).attachments) r ≡ true
  unfolding part
  of_guest r g e k = subst (λ (n : Guest). record_good (own config n) (pick_by n.0 config.owners (read d).attachments) r ≡ true) e k

  clear-of-guest : (r : Mapping) (g : Guest) → guest (guest_of r) ≡ g → record_clear config (read d) r ≡ true → off_regions (own config g) (pick_by g.0 config.owners (read d).attachments) r ≡ true
  unfolding part
  clear-of-guest r g e k = subst (λ (n : Guest). off_regions (own config n) (pick_by n.0 config.owners (read d).attachments) r ≡ true) e k

  log-sound : (g : ℕ) → g < config.settings.guests → LogFacts (own config (guest g)) (log_at d.state g)
  log-sound g l =
      record {
        count = rw (length-tab (get_or d.state.logged g 0) (λ j. fault_at d.state (max_faults * g + j))) count;
        lost = facts.places.lost g (unfold config_of in l);
        faults = all-tab (fault_good (own config (guest g))) (get_or d.state.logged g 0) (λ j. fault_at d.state (max_faults * g + j)) at_place;
      }
    where
      count : get_or d.state.logged g 0 ≤ max_faults
      count = facts.places.counts g (unfold config_of in l)

      at_place : (j : ℕ) → j < get_or d.state.logged g 0 → fault_good (own config (guest g)) (fault_at d.state (max_faults * g + j)) ≡ true
      at_place j m = unfold fault_place_good in (rw (which, slot, lt-ltb j (get_or d.state.logged g 0) m) at (facts.logs.faults (max_faults * g + j) (omega (arith, small, few))))
        where
          few : j < max_faults
          few = omega (arith, m, count)

          small : g < max_guests
          small = omega (arith, l, sound-good.guests)

          which : (max_faults * g + j) / max_faults ≡ g
          which = omega (arith, few)

          slot : (max_faults * g + j) % max_faults ≡ j
          slot = omega (arith, few)

  pub sound-whole : Whole (config_of d.state) (read d)
  sound-whole =
      record {
        config = facts.frame.config;
        attachments = sizes;
        logs = unfold read config_of in length-tab d.state.settings.guests (log_at d.state);
        guests = all-of-guests;
        order = facts.records.order;
        disjoint = facts.records.disjoint;
        parts = λ g l. record {
          narrow = unfold own in sound-good.narrow;
          size = unfold own part in length-pick_by g.0 config.owners (read d).attachments config.endpoints (sizes ∙ sym sound-good.sizes);
          own = unfold own part in all-kept (mine g) (read d).records;
          attachments = unfold part in all-pick_by (in_range (own config g)) g.0 config.owners (read d).attachments (all-in-range g);
          order = unfold part in pairwise-keep before (mine g) (read d).records facts.records.order;
          records = unfold part in all_keep (record_passes config (read d)) (mine g) (record_good (own config g) (pick_by g.0 config.owners (read d).attachments)) (read d).records (λ r m k. of_guest r g (ap (λ n. record { 0 = n }) (eqb-true (guest_of r) g.0 m)) k) facts.records.passing;
          clear = unfold part in all_keep (record_clear config (read d)) (mine g) (off_regions (own config g) (pick_by g.0 config.owners (read d).attachments)) (read d).records (λ r m k. clear-of-guest r g (ap (λ n. record { 0 = n }) (eqb-true (guest_of r) g.0 m)) k) facts.reserved.clear;
          disjoint = unfold part in pairwise-keep apart (mine g) (read d).records facts.records.disjoint;
          share = unfold own part config_of in facts.records.shares g.0 (unfold config_of in l);
          log = unfold part in rw (log-read d g.0 (unfold config_of in l)) (log-sound g.0 l);
        };
      }

  -- and what is no guest's part is as soundness asks
  flag-good : (flag n : ℕ) → attachment_good config flag (record { 0 = n }) ≡ true → flag_good flag (record { 0 = n }) ≡ true
  unfolding attachment_good flag_good
  flag-good flag n k = go (or_cases _ _ k)
    where
      go : ((eqb flag 1 && not (outside config.settings.domains.start config.settings.domains.end n)) ≡ true) ⊎ ((eqb flag 0 && eqb n 0) ≡ true) → (eqb flag 1 || (eqb flag 0 && eqb n 0)) ≡ true
      go (inl a) = or_left (eqb flag 1) _ (both_left (eqb flag 1) _ a)
      go (inr a) = or_right (eqb flag 1) _ a

  used-or-zero : (i : ℕ) → fault_place_good config d.state i ≡ true → (fault_used d.state i || fault_zero (fault_at d.state i)) ≡ true
  unfolding fault_place_good
  used-or-zero i k = go (fault_used d.state i) k
    where
      go : (b : Bool) → cond b (fault_good (own config (guest (i / max_faults))) (fault_at d.state i)) (fault_zero (fault_at d.state i)) ≡ true → (b || fault_zero (fault_at d.state i)) ≡ true
      go true k = refl
      go false k = k

  pub sound-common : Common d
  sound-common =
      record {
        frame = facts.frame;
        guests = unfold config_of in all-of-guests;
        upward = before-upward (read d).records facts.records.order;
        zeros = facts.records.zeros;
        flags = λ i l. flag-good _ _ (facts.places.attachments i l);
        unused = facts.places.unused;
        regions = facts.reserved.zeros;
        faults = λ i l. used-or-zero i (facts.logs.faults i l);
      }
