-- The tests of a good configuration and of soundness, group by group, as named facts, and back.
use Prim.Native.Nat.{ℕ, ◌*◌, ◌^◌, ◌≤◌, ◌<◌}
use mathlib.Core.Path.{◌≡◌}
use mathlib.Core.Bool.{Bool, true, not, ◌&&◌, ◌||◌}
use mathlib.Core.List.{List, [], ◌∷◌}
use native.Mathlib.Omega.{arith}
use lib.Dec.{leb, ltb, eqb}
use lib.ListN.{length, get_or}
use borrow.Author.Tests.{ltb-true, leb-true, eqb-true, eqb-false, eq-eqb, ne_eqb, lt-ltb, le-leb, not-true}
use Rattle.laws.specs.Lists.{all?, every?, pairwise, below, sum_below}
use Rattle.laws.proofs.Tests.{both, both_left, both_right, opened, closed}
use Rattle.laws.proofs.Tables.{below_at, below_all}
use Rattle.rules.specs.declared.State.{State}
use Rattle.rules.specs.Sizes.{max_guests, max_endpoints, endpoint_region_words, max_records, record_words, table_words, max_faults, max_lost, fault_places, domain_span}
use Rattle.rules.specs.Configuration.{Config, share, window_first, window_last, share_address, settings_tests, list_tests, regions_at, endpoint_regions, used_words, region_tests, good_settings, good_lists, good_regions, good}
use Rattle.rules.specs.Table.{guest_of, before, apart}
use Rattle.rules.specs.State.{Log, Device, config_of, domain_at, read, fault_at}
use Rattle.rules.specs.Guests.{Own, Part, records_of}
use Rattle.rules.specs.Sound.{guest, record_good, record_passes, off_regions, record_clear, attachment_good, in_range, flag_good, fault_good, fault_zero, fault_used, fault_place_good, zero_from, frame_tests, unused_tests, place_tests, log_tests, record_tests, region_zeros, reserved_tests, sound, part_tests, common_tests}
use Rattle.rules.proofs.Records.{mine}

-- A GOOD CONFIGURATION

pub record Good (c : Config) : Type 0 where
  pub guests : (1 ≤ c.settings.guests) × (c.settings.guests ≤ max_guests)
  pub windows : (g : ℕ) → g < c.settings.guests → window_first c.settings g ≤ window_last c.settings g
  pub windows-apart : (g k : ℕ) → g < c.settings.guests → k < g → not (share_address c.settings g k) ≡ true
  pub shares : sum_below c.settings.guests (share c.settings) ≤ max_records
  pub mask : 0 < c.settings.mask
  pub input : c.settings.input.start ≤ c.settings.input.end
  pub domains : c.settings.domains.start ≤ c.settings.domains.end
  pub top : c.settings.input.end < 2 ^ 64
  pub narrow : c.settings.domains.end < domain_span
  pub sizes : length c.endpoints ≡ length c.owners
  pub few : length c.endpoints ≤ max_endpoints
  pub owners : all? (λ o. ltb o c.settings.guests) c.owners ≡ true
  pub distinct : pairwise (λ a b. not (eqb a b)) c.endpoints ≡ true
  pub region-words : length c.regions ≡ endpoint_region_words * length c.endpoints
  pub regions : (i : ℕ) → i < length c.endpoints → every? (region_tests (regions_at c.regions i)) ≡ true

pub good-facts : (c : Config) → good c ≡ true → Good c
unfolding good good_settings good_lists good_regions
good-facts c h =
    let n = c.settings.guests in
    let lists = both_right (good_settings c.settings) (good_lists c.settings c.endpoints c.owners && good_regions (length c.endpoints) c.regions) h in
    let r = both_right (good_lists c.settings c.endpoints c.owners) (good_regions (length c.endpoints) c.regions) lists in
    let s = opened (settings_tests c.settings) (both_left (good_settings c.settings) _ h) in
    let l = opened (list_tests c.settings c.endpoints c.owners) (both_left (good_lists c.settings c.endpoints c.owners) _ lists) in
    let m : c.settings.mask ≡ 0 → ⊥ = eqb-false c.settings.mask 0 (not-true _ s.1.1.1.1.1.0) in
    record {
      guests = (leb-true _ _ s.0, leb-true _ _ s.1.0);
      windows = λ g k. leb-true _ _ (below_at n (λ g. leb (window_first c.settings g) (window_last c.settings g)) g s.1.1.0 k);
      windows-apart = λ g k i j. below_at g (λ k. not (share_address c.settings g k)) k (below_at n (λ g. below g (λ k. not (share_address c.settings g k))) g s.1.1.1.0 i) j;
      shares = leb-true _ _ s.1.1.1.1.0;
      mask = omega arith;
      input = leb-true _ _ s.1.1.1.1.1.1.0;
      domains = leb-true _ _ s.1.1.1.1.1.1.1.0;
      top = ltb-true _ _ s.1.1.1.1.1.1.1.1.0;
      narrow = ltb-true _ _ s.1.1.1.1.1.1.1.1.1.0;
      sizes = eqb-true _ _ l.0;
      few = leb-true _ _ l.1.0;
      owners = l.1.1.0;
      distinct = l.1.1.1.0;
      region-words = eqb-true _ _ (both_left (eqb (length c.regions) (endpoint_region_words * length c.endpoints)) _ r);
      regions = λ i k. below_at (length c.endpoints) (λ i. every? (region_tests (regions_at c.regions i))) i (both_right (eqb (length c.regions) (endpoint_region_words * length c.endpoints)) _ r) k;
    }

pub good-tests : (c : Config) → Good c → good c ≡ true
unfolding good good_settings good_lists good_regions
good-tests c h =
    let s = c.settings in
    both (good_settings s) (good_lists s c.endpoints c.owners && good_regions (length c.endpoints) c.regions)
    (closed (settings_tests s) (
      le-leb _ _ h.guests.0,
      (
        le-leb _ _ h.guests.1,
        (
          below_all s.guests _ (λ g k. le-leb _ _ (h.windows g k)),
          (
            below_all s.guests _ (λ g i. below_all g _ (λ k j. h.windows-apart g k i j)),
            (
              le-leb _ _ h.shares,
              (
                rw (ne_eqb s.mask 0 (λ e. omega (arith, e, h.mask))),
                (le-leb _ _ h.input, (le-leb _ _ h.domains, (lt-ltb _ _ h.top, (lt-ltb _ _ h.narrow, tt)))),
              ),
            ),
          ),
        ),
      ),
    ))
    (both (good_lists s c.endpoints c.owners) (good_regions (length c.endpoints) c.regions)
    (closed (list_tests s c.endpoints c.owners) (eq-eqb _ _ h.sizes, (le-leb _ _ h.few, (h.owners, (h.distinct, tt)))))
    (both (eqb (length c.regions) (endpoint_region_words * length c.endpoints)) (below (length c.endpoints) (λ i. every? (region_tests (regions_at c.regions i))))
    (eq-eqb _ _ h.region-words)
    (below_all (length c.endpoints) _ h.regions)))

-- THE FRAME

pub record Framed (d : Device) : Type 0 where
  pub words : length d.table ≡ table_words
  pub config : good (config_of d.state) ≡ true
  pub listed : length (config_of d.state).endpoints ≡ d.state.listed
  pub live : d.state.live ≤ max_records

pub frame-facts : (d : Device) → every? (frame_tests d) ≡ true → Framed d
frame-facts d h =
    let t = opened (frame_tests d) h in
    record { words = eqb-true _ _ t.0; config = t.1.0; listed = eqb-true _ _ t.1.1.0; live = leb-true _ _ t.1.1.1.0 }

pub frame-tests : (d : Device) → Framed d → every? (frame_tests d) ≡ true
frame-tests d h = closed (frame_tests d) (eq-eqb _ _ h.words, (h.config, (eq-eqb _ _ h.listed, (le-leb _ _ h.live, tt))))

-- THE PLACES

-- each array of guest and of endpoint places is zero past those in use
pub record Unused (s : State) : Type 0 where
  pub shares : zero_from s.settings.guests s.settings.shares ≡ true
  pub firsts : zero_from s.settings.guests s.settings.firsts ≡ true
  pub lasts : zero_from s.settings.guests s.settings.lasts ≡ true
  pub logged : zero_from s.settings.guests s.logged ≡ true
  pub lost : zero_from s.settings.guests s.lost ≡ true
  pub endpoints : zero_from s.listed s.endpoints ≡ true
  pub owners : zero_from s.listed s.owners ≡ true
  pub attached : zero_from s.listed s.attached ≡ true
  pub domains : zero_from s.listed s.domains ≡ true

pub unused-facts : (s : State) → every? (unused_tests s) ≡ true → Unused s
unused-facts s h =
    let t = opened (unused_tests s) h in
    let e = t.1.1.1.1.1 in
    record { shares = t.0; firsts = t.1.0; lasts = t.1.1.0; logged = t.1.1.1.0; lost = t.1.1.1.1.0; endpoints = e.0; owners = e.1.0; attached = e.1.1.0; domains = e.1.1.1.0 }

pub unused-tests : (s : State) → Unused s → every? (unused_tests s) ≡ true
unused-tests s h =
    closed (unused_tests s) (h.shares, (h.firsts, (h.lasts, (h.logged, (h.lost, (h.endpoints, (h.owners, (h.attached, (h.domains, tt)))))))))

pub record Placed (s : State) : Type 0 where
  pub attachments : (i : ℕ) → i < s.listed → attachment_good (config_of s) (get_or s.attached i 0) (domain_at s i) ≡ true
  pub counts : (g : ℕ) → g < s.settings.guests → get_or s.logged g 0 ≤ max_faults
  pub lost : (g : ℕ) → g < s.settings.guests → get_or s.lost g 0 ≤ max_lost
  pub unused : Unused s

pub place-facts : (s : State) → every? (place_tests s) ≡ true → Placed s
place-facts s h =
    let t = opened (place_tests s) h in
    record {
      attachments = λ i l. below_at s.listed _ i t.0 l;
      counts = λ g l. leb-true _ _ (below_at s.settings.guests (λ g. leb (get_or s.logged g 0) max_faults) g t.1.0 l);
      lost = λ g l. leb-true _ _ (below_at s.settings.guests (λ g. leb (get_or s.lost g 0) max_lost) g t.1.1.0 l);
      unused = unused-facts s t.1.1.1.0;
    }

pub place-tests : (s : State) → Placed s → every? (place_tests s) ≡ true
place-tests s h =
    closed (place_tests s) (
      below_all s.listed _ h.attachments,
      (below_all s.settings.guests _ (λ g l. le-leb _ _ (h.counts g l)), (below_all s.settings.guests _ (λ g l. le-leb _ _ (h.lost g l)), (unused-tests s h.unused, tt))),
    )

-- THE LOGS

pub record Logged (s : State) : Type 0 where
  pub faults : (i : ℕ) → i < fault_places → fault_place_good (config_of s) s i ≡ true

pub log_facts : (s : State) → every? (log_tests s) ≡ true → Logged s
log_facts s h = record { faults = λ i l. below_at fault_places (fault_place_good (config_of s) s) i (opened (log_tests s) h).0 l }

pub log-tests : (s : State) → Logged s → every? (log_tests s) ≡ true
log-tests s h = closed (log_tests s) (below_all fault_places (fault_place_good (config_of s) s) h.faults, tt)

-- THE RECORDS

pub record Recorded (d : Device) : Type 0 where
  pub order : pairwise before (read d).records ≡ true
  pub zeros : zero_from (record_words * d.state.live) d.table ≡ true
  pub passing : all? (record_passes (config_of d.state) (read d)) (read d).records ≡ true
  pub disjoint : pairwise apart (read d).records ≡ true
  pub shares : (g : ℕ) → g < d.state.settings.guests → length (records_of (guest g) (read d).records) ≤ share d.state.settings g

pub record-facts : (d : Device) → every? (record_tests d) ≡ true → Recorded d
record-facts d h =
    let t = opened (record_tests d) h in
    record {
      order = t.0;
      zeros = t.1.0;
      passing = t.1.1.0;
      disjoint = t.1.1.1.0;
      shares = λ g l. leb-true _ _ (below_at d.state.settings.guests (λ g. leb (length (records_of (guest g) (read d).records)) (share d.state.settings g)) g t.1.1.1.1.0 l);
    }

pub record-tests : (d : Device) → Recorded d → every? (record_tests d) ≡ true
record-tests d h =
    closed (record_tests d)
    (h.order, (h.zeros, (h.passing, (h.disjoint, (below_all d.state.settings.guests _ (λ g l. le-leb _ _ (h.shares g l)), tt)))))

-- THE RESERVED REGIONS

-- the words of the regions are zero past those in use
pub record RegionZeros (s : State) : Type 0 where
  pub past : zero_from (endpoint_region_words * s.listed) s.regions ≡ true
  pub rest : (i : ℕ) → i < s.listed → zero_from (used_words s.regions i) (endpoint_regions s.regions i) ≡ true

pub zeros-facts : (s : State) → every? (region_zeros s) ≡ true → RegionZeros s
zeros-facts s h = let t = opened (region_zeros s) h in record { past = t.0; rest = λ i l. below_at s.listed _ i t.1.0 l }

pub zeros-tests : (s : State) → RegionZeros s → every? (region_zeros s) ≡ true
zeros-tests s h = closed (region_zeros s) (h.past, (below_all s.listed _ h.rest, tt))

pub record Reserved (d : Device) : Type 0 where
  pub zeros : RegionZeros d.state
  pub clear : all? (record_clear (config_of d.state) (read d)) (read d).records ≡ true

pub reserved-facts : (d : Device) → every? (reserved_tests d) ≡ true → Reserved d
reserved-facts d h = let t = opened (reserved_tests d) h in record { zeros = zeros-facts d.state t.0; clear = t.1.0 }

pub reserved-tests : (d : Device) → Reserved d → every? (reserved_tests d) ≡ true
reserved-tests d h = closed (reserved_tests d) (zeros-tests d.state h.zeros, (h.clear, tt))

-- SOUNDNESS

abbrev groups : Device → List Bool
groups d = every? (frame_tests d) ∷ every? (place_tests d.state) ∷ every? (log_tests d.state) ∷ every? (record_tests d) ∷ every? (reserved_tests d) ∷ []

pub record Sound (d : Device) : Type 0 where
  pub frame : Framed d
  pub places : Placed d.state
  pub logs : Logged d.state
  pub records : Recorded d
  pub reserved : Reserved d

pub sound-facts : (d : Device) → sound d ≡ true → Sound d
unfolding sound
sound-facts d h =
    let t = opened (groups d) h in
    record { frame = frame-facts d t.0; places = place-facts d.state t.1.0; logs = log_facts d.state t.1.1.0; records = record-facts d t.1.1.1.0; reserved = reserved-facts d t.1.1.1.1.0 }

pub sound-tests : (d : Device) → Sound d → sound d ≡ true
unfolding sound
sound-tests d h =
    closed (groups d)
    (frame-tests d h.frame, (place-tests d.state h.places, (log-tests d.state h.logs, (record-tests d h.records, (reserved-tests d h.reserved, tt)))))

-- ONE GUEST'S PART

pub record LogFacts (o : Own) (l : Log) : Type 0 where
  pub count : length l.faults ≤ max_faults
  pub lost : l.lost ≤ max_lost
  pub faults : all? (fault_good o) l.faults ≡ true

-- what soundness asks of the part, and what it is a part for: a guest with narrow domains, its endpoints and its own records
pub record Facts (o : Own) (p : Part) : Type 0 where
  pub narrow : o.domains.end < domain_span
  pub size : length p.attachments ≡ length o.endpoints
  pub own : all? (mine o.guest) p.records ≡ true
  pub attachments : all? (in_range o) p.attachments ≡ true
  pub order : pairwise before p.records ≡ true
  pub records : all? (record_good o p.attachments) p.records ≡ true
  pub clear : all? (off_regions o p.attachments) p.records ≡ true
  pub disjoint : pairwise apart p.records ≡ true
  pub share : length p.records ≤ o.share
  pub log : LogFacts o p.log

pub part-facts : (o : Own) (p : Part) → o.domains.end < domain_span → length p.attachments ≡ length o.endpoints → all? (mine o.guest) p.records ≡ true → every? (part_tests o p) ≡ true → Facts o p
part-facts o p narrow size own h =
    let t = opened (part_tests o p) h in
    let l = t.1.1.1.1.1.1 in
    record {
      narrow = narrow;
      size = size;
      own = own;
      attachments = t.0;
      order = t.1.0;
      records = t.1.1.0;
      clear = t.1.1.1.0;
      disjoint = t.1.1.1.1.0;
      share = leb-true _ _ t.1.1.1.1.1.0;
      log = record { count = leb-true _ _ l.0; lost = leb-true _ _ l.1.0; faults = l.1.1.0 };
    }

pub part-tests : (o : Own) (p : Part) → Facts o p → every? (part_tests o p) ≡ true
part-tests o p h =
    closed (part_tests o p) (
      h.attachments,
      (h.order, (h.records, (h.clear, (h.disjoint, (le-leb _ _ h.share, (le-leb _ _ h.log.count, (le-leb _ _ h.log.lost, (h.log.faults, tt)))))))),
    )

-- WHAT IS NO GUEST'S PART

pub record Common (d : Device) : Type 0 where
  pub frame : Framed d
  pub guests : all? (λ r. ltb (guest_of r) d.state.settings.guests) (read d).records ≡ true
  pub upward : pairwise (λ r s. leb (guest_of r) (guest_of s)) (read d).records ≡ true
  pub zeros : zero_from (record_words * d.state.live) d.table ≡ true
  pub flags : (i : ℕ) → i < d.state.listed → flag_good (get_or d.state.attached i 0) (domain_at d.state i) ≡ true
  pub unused : Unused d.state
  pub regions : RegionZeros d.state
  pub faults : (i : ℕ) → i < fault_places → (fault_used d.state i || fault_zero (fault_at d.state i)) ≡ true

pub common-facts : (d : Device) → every? (common_tests d) ≡ true → Common d
common-facts d h =
    let t = opened (common_tests d) h in
    record {
      frame = frame-facts d t.0;
      guests = t.1.0;
      upward = t.1.1.0;
      zeros = t.1.1.1.0;
      flags = λ i l. below_at d.state.listed _ i t.1.1.1.1.0 l;
      unused = unused-facts d.state t.1.1.1.1.1.0;
      regions = zeros-facts d.state t.1.1.1.1.1.1.0;
      faults = λ i l. below_at fault_places _ i t.1.1.1.1.1.1.1.0 l;
    }

pub common-tests : (d : Device) → Common d → every? (common_tests d) ≡ true
common-tests d h =
    closed (common_tests d) (
      frame-tests d h.frame,
      (h.guests, (h.upward, (h.zeros, (below_all d.state.listed _ h.flags, (unused-tests d.state h.unused, (zeros-tests d.state h.regions, (below_all fault_places _ h.faults, tt))))))),
    )
