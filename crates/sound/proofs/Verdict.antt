-- The tests of soundness, in the order and the grouping in which the code makes them.
use Prim.Native.Nat.{ℕ, ◌*◌, ◌<◌, ◌≤◌}
use mathlib.Core.Path.{◌≡◌, refl, sym, ap, ◌∙◌}
use mathlib.Core.Bool.{Bool, true, false, cond, not, ◌&&◌, and-true, and-false}
use mathlib.Core.List.{List, [], ◌∷◌}
use mathlib.Core.Option.{Option, some}
use native.Mathlib.Omega.{arith}
use lib.Dec.{leb, ltb}
use lib.ListN.{length, take}
use borrow.Author.Tests.{lt-ltb, le-leb, leb-true}
use Rattle.laws.specs.Lists.{all?, every?, first_failing}
use Rattle.laws.proofs.Tests.{both, both_left, both_right, true-false, same_test, cleared}
use Rattle.laws.proofs.Filters.{all-imp}
use Rattle.laws.proofs.Tables.{below_at, below_all}
use Rattle.laws.proofs.Owners.{owner-among}
use Rattle.rules.specs.declared.Settings.{Settings}
use Rattle.rules.specs.declared.Mapping.{Mapping}
use Rattle.rules.specs.Sizes.{max_guests, max_endpoints, endpoint_region_words, max_records, record_words, table_words}
use Rattle.rules.specs.Configuration.{share, good_settings, good_lists, good_regions, good}
use Rattle.rules.specs.Table.{records, guest_of, domain_of}
use Rattle.rules.specs.State.{Device, config_of, read}
use Rattle.rules.specs.Guests.{own, part, records_of}
use Rattle.rules.specs.Requests.{NOENT}
use Rattle.rules.specs.Handlers.{domain_exists, is_in, form_steps}
use Rattle.rules.specs.Sound.{guest, passes, zero_from, record_good, record_passes, shares_kept, frame_tests, place_tests, log_tests, reserved_tests, sound}
use Rattle.rules.proofs.Words.{length-records}
use Rattle.rules.proofs.Records.{wide}
use Rattle.rules.proofs.Groups.{Good, good-facts, Framed, frame-facts, frame-tests, Placed, place-tests, Logged, log-tests, Recorded, reserved-facts, reserved-tests, sound-facts, sound-tests}
use Rattle.rules.proofs.Parts.{passes_none, form-wide}
use Rattle.table_record.specs.Records.{no_mapping}
use Rattle.table_search.proofs.Ordered.{InOrder}
use Rattle.map_steps.specs.Forms.{limits_of, limits_at, form_good}
use Rattle.sound_records.specs.Scan.{own_good, domain_good, scan, room_tests}
use Rattle.sound_records.proofs.Room.{room-tests}
use Rattle.sound_records.proofs.Order.{Scanned, from-scan, to-scan}
use Rattle.sound_regions.specs.Clear.{regions_good}
use Rattle.sound_regions.proofs.Cleared.{reserved-are}

-- what does not hold where a test fails that it implies
unless : (a b : Bool) → (b ≡ true → a ≡ true) → a ≡ false → b ≡ false
unless a true f h = true-false a (f refl) h
unless a false f h = refl

-- what a test says whose first part is known to pass
pub granted : {r : Bool} (a b v : Bool) → a ≡ true → r ≡ (a && b) → r ≡ v → b ≡ v
granted a b v h e k = sym (e ∙ ap (λ (x : Bool). x && b) h) ∙ k

-- WHAT THE FRAME GRANTS TO THE TESTS AFTER IT

module _ (d : Device) (f : Framed d) where
  configured : Good (config_of d.state)
  configured = good-facts (config_of d.state) f.config

  pub guests-fit : leb d.state.settings.guests max_guests ≡ true
  unfolding config_of
  guests-fit = le-leb _ _ configured.guests.1

  pub endpoints-fit : leb d.state.listed max_endpoints ≡ true
  endpoints-fit = le-leb d.state.listed max_endpoints (omega (arith, f.listed, configured.few))

  pub room : every? (room_tests d.state.settings d.state.listed d.state.live d.table) ≡ true
  unfolding config_of
  room =
      room-tests d.state.settings d.state.listed d.state.live d.table
      (record {
        guests = configured.guests.1;
        mask = configured.mask;
        endpoints = leb-true _ _ endpoints-fit;
        records = omega (arith, length-records d.table, f.live, f.words);
      })

-- THE FRAME, TEST BY TEST

module _ (d : Device) where
  abbrev framed : Bool
  framed = every? (frame_tests d)

  abbrev n : ℕ
  n = d.state.listed

  pub endpoints-past : leb n max_endpoints ≡ false → framed ≡ false
  endpoints-past = unless (leb n max_endpoints) framed (λ h. endpoints-fit d (frame-facts d h))

  -- the lists and the regions of the configuration
  abbrev lists : Bool
  lists = good_lists d.state.settings (take n d.state.endpoints) (take n d.state.owners)

  abbrev regions : ℕ → Bool
  regions k = good_regions k (take (endpoint_region_words * n) d.state.regions)

  pub settings-bad : good_settings d.state.settings ≡ false → framed ≡ false
  unfolding config_of good
  settings-bad = unless (good_settings d.state.settings) framed (λ h. both_left (good_settings d.state.settings) (lists && regions (length (take n d.state.endpoints))) (frame-facts d h).config)

  pub lists-bad : lists ≡ false → framed ≡ false
  unfolding config_of good
  lists-bad = unless lists framed (λ h. both_left lists _ (both_right (good_settings d.state.settings) (lists && regions (length (take n d.state.endpoints))) (frame-facts d h).config))

  pub regions-decide : length d.table ≡ table_words → d.state.live ≤ max_records → length (take n d.state.endpoints) ≡ n → good_settings d.state.settings ≡ true → lists ≡ true → regions n ≡ framed
  unfolding config_of good
  regions-decide w l e g k =
      same_test (regions n) framed
      (λ h.
      frame-tests d
      (record { words = w; config = both (good_settings d.state.settings) _ g (both lists _ k (rw e h)); listed = e; live = l }))
      (λ h. rw e at (both_right lists (regions (length (take n d.state.endpoints))) (both_right (good_settings d.state.settings) (lists && regions (length (take n d.state.endpoints))) (frame-facts d h).config)))

-- A GROUP THAT FAILS

module _ (d : Device) where
  pub frame-fails : every? (frame_tests d) ≡ false → sound d ≡ false
  frame-fails = unless (every? (frame_tests d)) (sound d) (λ h. frame-tests d (sound-facts d h).frame)

  pub places-fail : every? (place_tests d.state) ≡ false → sound d ≡ false
  places-fail = unless (every? (place_tests d.state)) (sound d) (λ h. place-tests d.state (sound-facts d h).places)

  pub logs-fail : every? (log_tests d.state) ≡ false → sound d ≡ false
  logs-fail = unless (every? (log_tests d.state)) (sound d) (λ h. log-tests d.state (sound-facts d h).logs)

  pub zeros-fail : zero_from (record_words * d.state.live) d.table ≡ false → sound d ≡ false
  zeros-fail = unless (zero_from (record_words * d.state.live) d.table) (sound d) (λ h. (sound-facts d h).records.zeros)

-- THE PASS OVER THE RECORDS

-- steps 1 to 6 of MAP in two parts
steps : (b : Bool) (m : Option ℕ) → passes (cond (not b) (some NOENT) m) ≡ (b && passes m)
steps true m = refl
steps false m = refl

filled : (s : Settings) (r : Mapping) → own_good s r ≡ true → wide r ≡ true
unfolding own_good form_good
filled s r h =
    let o = limits_of (limits_at s (guest_of r)) in
    form-wide o r (cleared (form_steps o r) (passes_none _ (both_right (ltb (guest_of r) s.guests) _ h)))

keyed : (n : ℕ) (owners attached domains : List ℕ) (r s : Mapping) → r.key ≡ s.key → domain_good n owners attached domains r ≡ true → domain_good n owners attached domains s ≡ true
unfolding domain_good
keyed n owners attached domains r s e h = rw (← e) h

module _ (d : Device) (f : Framed d) where
  abbrev form : Mapping → Bool
  form = own_good d.state.settings

  abbrev domain : Mapping → Bool
  domain = domain_good d.state.listed d.state.owners d.state.attached d.state.domains

  abbrev live : List Mapping
  live = take d.state.live (records d.table)

  record_is : (r : Mapping) → record_passes (config_of d.state) (read d) r ≡ (form r && domain r)
  unfolding record_good part own read config_of own_good domain_good form_good form_steps
  record_is r = steps (domain r) (first_failing (form_steps (own (config_of d.state) (guest (guest_of r))) r)) ∙ go (domain r) refl
    where
      among : domain r ≡ true → guest_of r < d.state.settings.guests
      among e = unfold domain_exists in owner-among (is_in (domain_of r)) d.state.settings.guests (guest_of r) (take d.state.listed d.state.owners) (read d).attachments (configured d f).owners e

      go : (b : Bool) → domain r ≡ b → (b && passes (first_failing (form_steps (own (config_of d.state) (guest (guest_of r))) r))) ≡ (form r && b)
      go true e = rw (lt-ltb (guest_of r) d.state.settings.guests (among e)) (sym (and-true _))
      go false e = sym (and-false (form r))

  scanned : Recorded d → Scanned form domain live
  unfolding read
  scanned r =
      record {
        forms = all-imp (record_passes (config_of d.state) (read d)) form live (λ x k. both_left (form x) (domain x) (sym (record_is x) ∙ k)) r.passing;
        exist = all-imp (record_passes (config_of d.state) (read d)) domain live (λ x k. both_right (form x) (domain x) (sym (record_is x) ∙ k)) r.passing;
        order = r.order;
        disjoint = r.disjoint;
      }

  passing : (l : List Mapping) → all? form l ≡ true → all? domain l ≡ true → all? (record_passes (config_of d.state) (read d)) l ≡ true
  passing [] a b = refl
  passing (x ∷ l) a b =
      both (record_passes (config_of d.state) (read d) x) _ (record_is x ∙ both (form x) (domain x) (both_left (form x) _ a) (both_left (domain x) _ b))
      (passing l (both_right (form x) _ a) (both_right (domain x) _ b))

  recorded : zero_from (record_words * d.state.live) d.table ≡ true → Scanned form domain live → shares_kept d.state.settings live ≡ true → Recorded d
  unfolding read
  recorded z t k =
      record {
        order = t.order;
        zeros = z;
        passing = passing live t.forms t.exist;
        disjoint = t.disjoint;
        shares = λ g l. leb-true _ _ (below_at d.state.settings.guests (λ g. leb (length (records_of (guest g) live)) (share d.state.settings g)) g k l);
      }

  shares-kept : Recorded d → shares_kept d.state.settings live ≡ true
  unfolding read
  shares-kept r = below_all d.state.settings.guests _ (λ g k. le-leb _ _ (r.shares g k))

  formed : (r : Mapping) → form r ≡ true → wide r ≡ true
  formed = filled d.state.settings

  keyed-here : (r s : Mapping) → r.key ≡ s.key → domain r ≡ true → domain s ≡ true
  keyed-here = keyed d.state.listed d.state.owners d.state.attached d.state.domains

  -- what the pass over the records says, and what soundness asks of them
  abbrev pub records-pass : Bool
  records-pass = scan form domain true no_mapping live && shares_kept d.state.settings live

  pub records-fail : records-pass ≡ false → sound d ≡ false
  records-fail =
      unless records-pass (sound d)
      (λ h.
      let r = (sound-facts d h).records in
      both (scan form domain true no_mapping live) _ (to-scan form domain formed keyed-here live (scanned r)) (shares-kept r))

  records-hold : zero_from (record_words * d.state.live) d.table ≡ true → records-pass ≡ true → Recorded d
  records-hold z h =
      recorded z (from-scan form domain formed keyed-here live (both_left (scan form domain true no_mapping live) _ h)) (both_right (scan form domain true no_mapping live) _ h)

  ordered : zero_from (record_words * d.state.live) d.table ≡ true → records-pass ≡ true → InOrder live
  unfolding read
  ordered z h =
      let r = records-hold z h in
      record { order = r.order; disjoint = r.disjoint; filled = all-imp form wide live formed (scanned r).forms }

  -- where the other tests pass, those of the reserved regions decide
  pub decided : Placed d.state → Logged d.state → zero_from (record_words * d.state.live) d.table ≡ true → records-pass ≡ true
      → regions_good d.state d.table ≡ sound d
  decided p l z h =
      reserved-are d f p (ordered z h)
      ∙ same_test (every? (reserved_tests d)) (sound d)
      (λ k. sound-tests d (record { frame = f; places = p; logs = l; records = records-hold z h; reserved = reserved-facts d k }))
      (λ k. reserved-tests d (sound-facts d k).reserved)
