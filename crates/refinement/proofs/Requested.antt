-- The requests, worked on arrays and words, are the rules' on the guest's part.
use Prim.Native.Nat.{ℕ, ◌+◌, ◌-◌, ◌*◌, ◌<◌}
use mathlib.Core.Path.{◌≡◌, refl, sym, ap, subst, ◌∙◌}
use mathlib.Core.Bool.{Bool, true, false, cond, not, ◌&&◌, ◌||◌}
use mathlib.Core.List.{List, [], ◌∷◌}
use mathlib.Core.Option.{Option, some, none}
use native.Mathlib.Omega.{arith}
use lib.Dec.{leb, ltb, eqb}
use lib.ListN.{length, get_or, set, replicate}
use borrow.Author.Tests.{ltb-true, leb-true, eqb-true, eq-eqb, le-leb, not-true}
use Rattle.laws.specs.Lists.{all?, any?, keep, pairwise, tab, pad, weave_by}
use Rattle.laws.proofs.Tests.{both_left, both_right, true-false, same_test, opened, Clear}
use Rattle.laws.proofs.Filters.{all-imp, keep_same}
use Rattle.laws.proofs.Tables.{length-tab, get_d-tab}
use Rattle.rules.specs.declared.Guest.{Guest}
use Rattle.rules.specs.declared.Endpoint.{Endpoint}
use Rattle.rules.specs.declared.Domain.{Domain}
use Rattle.rules.specs.declared.DomainRange.{DomainRange}
use Rattle.rules.specs.declared.Mapping.{Mapping}
use Rattle.rules.specs.declared.Region.{Region}
use Rattle.rules.specs.declared.Settings.{Settings}
use Rattle.rules.specs.declared.State.{State}
use Rattle.rules.specs.declared.Fault.{Fault}
use Rattle.rules.specs.Sizes.{domain_span, max_endpoints, max_records, properties_size, top_address}
use Rattle.rules.specs.Configuration.{Config, MSI, share, regions_at, region_tests}
use Rattle.rules.specs.Table.{key_of, guest_of, overlap, insert_mapping}
use Rattle.rules.specs.State.{Attachment, Log, World, no_log, config_of, read, flag_of, number_of, state_of, write}
use Rattle.rules.specs.Guests.{own, part, replace, records_of, with_records_of, with_records, with_log}
use Rattle.rules.specs.Handlers.{outside, is_in, domain_exists, listed, attachment_of, of_key, regions_of, regions_in, on_region, without, leave, enter, move_from, attached, attach_steps, handle_attach, detach_steps, handle_detach, form_steps, map_steps, handle_map, inside, straddles, unmap_steps, handle_unmap, probe_steps, properties_of, probed, status_of, attach_chain, detach_chain, map_chain, unmap_chain}
use Rattle.rules.specs.Requests.{OK, NOENT}
use Rattle.rules.specs.Access.{after_reset, logged, fetched_from}
use Rattle.rules.specs.Sound.{guest, in_range, record_good}
use Rattle.rules.specs.Device.{owner_of, is}
use Rattle.rules.proofs.Records.{mine, wide, all-guests}
use Rattle.rules.proofs.Groups.{Good, good-facts, Facts}
use Rattle.rules.proofs.Parts.{in-range, record-wide}
use Rattle.rules.proofs.Worlds.{Whole, same-guest}
use Rattle.rules.proofs.Chains.{outside_high, attaches, detaches, maps, unmap-there}
use Rattle.rules.proofs.Words.{records-table_of}
use Rattle.rules.proofs.Shares.{fits}
use Rattle.rules.proofs.Writing.{kept, config-back, read-write}
use Rattle.rules.proofs.Soundness.{write-sound}
use Rattle.rules.proofs.Share.{room-within-share}
use Rattle.table_remove.specs.Removed.{within}
use Rattle.state_log.specs.Changes.{log_fault}
use Rattle.state_log.specs.Dropped.{drop_faults}
use Rattle.state_reset.specs.Changes.{guest_cleared}
use Rattle.wire_properties.specs.Properties.{properties_put}
use Rattle.state_regions.specs.Held.{held_regions}
use Rattle.table_search.proofs.Ordered.{InOrder}
use Rattle.table_reserved.specs.Reserved.{regions_met}
use Rattle.table_reserved.proofs.Swapped.{regions-met}
use Rattle.state_endpoints.specs.Search.{index_of}
use Rattle.refinement.specs.Flat.{device, with_status, endpoint_index, owned_at, is_attached, live_records, removed, inserted, settled, is_in_domain, barred_from, attach_status, detach_status, map_status, map_counted, unmap_status, probe_status, probe_bytes, reset_guest}
use Rattle.refinement.specs.Flat as flat
use Rattle.rules.proofs.PutBack.{with-kept, with-inserted, any_of}
use Rattle.rules.proofs.Unchanged.{attachments-same, records-same, replace-same}
use Rattle.refinement.proofs.Places.{owner_of-at, listed-owned}
use Rattle.refinement.proofs.Written.{with_recs, with_logs, exists-written, removed-written, inserted-written}
use Rattle.refinement.proofs.Reserved.{regions-of-at, held-here, on-regions, properties-put}
use Rattle.refinement.proofs.Leaving.{place-listed, keep-agree, ends, replace-records, left-written, entered-written, moved_on, attachment-here, flag-here, number-here, in-domain, of-key-mine}
use Rattle.refinement.proofs.Logs.{logged-written, dropped-written, cleared-written}
use Rattle.refinement.proofs.Statuses.{settled-written}

attachment-passes : (q : Attachment → Bool) (e : Endpoint) (es : List ℕ) (l : List Attachment) → q none ≡ true → all? q l ≡ true → q (attachment_of e es l) ≡ true
attachment-passes q e [] l z h = z
attachment-passes q e (n ∷ es) [] z h = z
attachment-passes q e (n ∷ es) (a ∷ l) z h = go (eqb n e.0) (attachment-passes q e es l z (both_right (q a) _ h))
  where
    go : (b : Bool) → q (attachment_of e es l) ≡ true → q (cond b a (attachment_of e es l)) ≡ true
    go true i = both_left (q a) _ h
    go false i = i

module _ (c : Config) (k : kept c ≡ c) (w : World) (h : Whole c w) (g : Guest) (m : g.0 < c.settings.guests) where
  good-c : Good c
  good-c = good-facts c h.config

  facts : Facts (own c g) (part c g w)
  facts = h.parts g m

  -- what the state's fields say
  pub settings-is : (write c w).state.settings ≡ c.settings
  unfolding write state_of kept
  settings-is = ap (λ (x : Config). x.settings) k

  pub config-is : config_of (write c w).state ≡ c
  unfolding write
  config-is = config-back c w good-c ∙ k

  pub place_is : (e : Endpoint) → endpoint_index (write c w).state e ≡ index_of e.0 c.endpoints
  unfolding write config_of kept
  place_is e = ap (λ (x : Config). index_of e.0 x.endpoints) (config-back c w good-c)

  distinct : pairwise (λ a b. not (eqb a b)) c.endpoints ≡ true
  distinct = good-c.distinct

  owned-is : (e : Endpoint) → owned_at (write c w).state g (endpoint_index (write c w).state e) ≡ listed e (own c g).endpoints
  owned-is e =
      rw (place_is e)
      (sym (unfold own in (listed-owned e g c.endpoints c.owners (sym good-c.sizes) distinct ∙ ap (λ (x : Option Guest). is g x) (owner_of-at e c.endpoints c.owners (sym good-c.sizes))) ∙ go (ltb (index_of e.0 c.endpoints) (length c.endpoints)) refl))
    where
      go : (b : Bool) → ltb (index_of e.0 c.endpoints) (length c.endpoints) ≡ b → is g (cond b (some (guest (get_or c.owners (index_of e.0 c.endpoints) 0))) none) ≡ (ltb (index_of e.0 c.endpoints) (write c w).state.listed && eqb (get_or (write c w).state.owners (index_of e.0 c.endpoints) 0) g.0)
      go true x = unfold write state_of in rw (x, get_d-tab max_endpoints (λ j. get_or c.owners j 0) (index_of e.0 c.endpoints) 0 (omega (arith, ltb-true (index_of e.0 c.endpoints) (length c.endpoints) x, good-c.few)))
      go false x = unfold write state_of in rw x

  -- an endpoint among the guest's is owned by it
  owner_here : (e : Endpoint) → listed e (own c g).endpoints ≡ true → owner_of e c.endpoints c.owners ≡ some g
  owner_here e l = go (owner_of e c.endpoints c.owners) (sym (listed-owned e g c.endpoints c.owners (sym good-c.sizes) distinct) ∙ unfold own in l)
    where
      go : (x : Option Guest) → is g x ≡ true → x ≡ some g
      go none i = true-false false i refl
      go (some y) i = ap (λ z. some z) (same-guest y g i)

  live-is : live_records (write c w) ≡ w.records
  live-is = unfold write state_of in records-table_of w.records

  same-world : write c w ≡ write c (replace c g (part c g w) w)
  same-world = ap (λ (v : World). write c v) (sym (replace-same c w h g))

  -- ATTACH

  pub small-domain : (e : Endpoint) (was : Domain) → attachment_of e (own c g).endpoints (part c g w).attachments ≡ some was → was.0 < domain_span
  small-domain e was x = go (subst (λ (a : Attachment). in_range (own c g) a ≡ true) x (attachment-passes (in_range (own c g)) e (own c g).endpoints (part c g w).attachments (unfold in_range in refl) facts.attachments))
    where
      go : in_range (own c g) (some was) ≡ true → was.0 < domain_span
      go y = unfold in_range in omega (arith, outside_high (own c g).domains.start (own c g).domains.end was.0 (not-true _ y), facts.narrow)

  moved-written : (e : Endpoint) (dom : Domain) → owner_of e c.endpoints c.owners ≡ some g → flat.move_to (write c w) g (index_of e.0 c.endpoints) dom ≡ write c (replace c g (attached (own c g) e dom (part c g w)) w)
  moved-written e dom owner =
      unfold flat.move_to attached in
      (rw (flag-here c k w h g m e owner, number-here c k w h g m e owner, attachment-here c k w h g m e owner) (go (get_or w.attachments (index_of e.0 c.endpoints) none) refl))
    where
      i : ℕ
      i = index_of e.0 c.endpoints

      other : (was : Domain) → get_or w.attachments (index_of e.0 c.endpoints) none ≡ some was → (b : Bool)
          → cond b (write c w) (flat.enter (flat.leave (write c w) g (index_of e.0 c.endpoints) (record { 0 = was.0 })) (index_of e.0 c.endpoints) dom) ≡ write c (replace c g (cond b (part c g w) (enter (own c g) e dom (leave (own c g) e was (part c g w)))) w)
      other was x true = same-world
      other was x false = moved_on c k w h g m e owner was dom (small-domain e was (attachment-here c k w h g m e owner ∙ x))

      go : (a : Attachment) → get_or w.attachments (index_of e.0 c.endpoints) none ≡ a
          → cond (eqb (flag_of a) 1) (cond (eqb (number_of a) dom.0) (write c w) (flat.enter (flat.leave (write c w) g (index_of e.0 c.endpoints) (record { 0 = number_of a })) (index_of e.0 c.endpoints) dom)) (flat.enter (write c w) (index_of e.0 c.endpoints) dom)
          ≡ write c (replace c g (cond (is_in dom a) (part c g w) (enter (own c g) e dom (move_from (own c g) e a (part c g w)))) w)
      go none x = unfold is_in move_from in entered-written c k w h g m e owner dom
      go (some was) x = unfold is_in move_from in other was x (eqb was.0 dom.0)

  -- the regions of an endpoint of the guest's, as the words say them
  regions-here : (e : Endpoint) → owner_of e c.endpoints c.owners ≡ some g → held_regions (write c w).state.regions (index_of e.0 c.endpoints) ≡ regions_of e (own c g).endpoints (own c g).regions
  unfolding write own
  regions-here e owner =
      held-here c k good-c w (index_of e.0 c.endpoints) listed_here
      ∙ sym (regions-of-at e g c.endpoints c.owners (tab (length c.endpoints) (regions_at c.regions)) (sym good-c.sizes) (length-tab (length c.endpoints) (regions_at c.regions)) owner
      ∙ get_d-tab (length c.endpoints) (regions_at c.regions) (index_of e.0 c.endpoints) [] listed_here)
    where
      listed_here : index_of e.0 c.endpoints < length c.endpoints
      listed_here = place-listed c k w h g m e owner

  -- the records of all guests are in order
  in_order : InOrder w.records
  in_order =
      record {
        order = h.order;
        disjoint = h.disjoint;
        filled = all-guests c.settings.guests (λ k. wide) w.records h.guests of_guest;
      }
    where
      of_guest : (n : ℕ) → n < c.settings.guests → all? wide (records_of (guest n) w.records) ≡ true
      of_guest n l = unfold part in all-imp (record_good (own c (guest n)) (part c (guest n) w).attachments) wide (records_of (guest n) w.records) (record-wide (own c (guest n)) (part c (guest n) w).attachments) (h.parts (guest n) l).records

  -- the records of the domain on the regions of an endpoint of the guest's
  barred-is : (dom : Domain) (e : Endpoint) → listed e (own c g).endpoints ≡ true → dom.0 < domain_span
      → barred_from (write c w) g dom (endpoint_index (write c w).state e) ≡ any? (λ r. of_key (key_of (own c g).guest dom) r && on_region (regions_of e (own c g).endpoints (own c g).regions) r) (part c g w).records
  barred-is dom e l s =
      ap (λ (i : ℕ). barred_from (write c w) g dom i) (place_is e)
      ∙ ap (λ (x : List Mapping). regions_met (key_of g dom) x (held_regions (write c w).state.regions (index_of e.0 c.endpoints))) live-is
      ∙ ap (λ (qs : List Region). regions_met (key_of g dom) w.records qs) (regions-here e (owner_here e l))
      ∙ regions-met (key_of g dom) w.records (regions_of e (own c g).endpoints (own c g).regions) in_order
      ∙ sym (mine-alone (regions_of e (own c g).endpoints (own c g).regions))
    where
      mine-alone : (qs : List Region) → any? (λ r. of_key (key_of (own c g).guest dom) r && on_region qs r) (part c g w).records ≡ any? (λ r. of_key (key_of g dom) r && on_region qs r) w.records
      mine-alone qs = unfold own part in any_of g (λ r. of_key (key_of g dom) r && on_region qs r) w.records (λ r x. of-key-mine g dom r s (both_left (of_key (key_of g dom) r) _ x))

  attach-status : (dom : Domain) (e : Endpoint) (z : ℕ) → attach_status (write c w) g dom (endpoint_index (write c w).state e) z ≡ status_of (attach_steps (own c g) (part c g w) dom e z)
  unfolding attach_status
  attach-status dom e z =
      ap (λ b. status_of (attach_chain (not (eqb z 0)) (not b) (outside (write c w).state.settings.domains.start (write c w).state.settings.domains.end dom.0) flatly)) (owned-is e)
      ∙ ap (λ (s : Settings). status_of (attach_chain (not (eqb z 0)) (not (listed e (own c g).endpoints)) (outside s.domains.start s.domains.end dom.0) flatly)) settings-is
      ∙ ap (λ (s : DomainRange). status_of (attach_chain (not (eqb z 0)) (not (listed e (own c g).endpoints)) (outside s.start s.end dom.0) flatly)) ranges
      ∙ go (listed e (own c g).endpoints) refl (outside (own c g).domains.start (own c g).domains.end dom.0) refl
    where
      ranges : c.settings.domains ≡ (own c g).domains
      ranges = unfold own in refl

      flatly : Bool
      flatly = not (is_in_domain (write c w).state (endpoint_index (write c w).state e) dom) && barred_from (write c w) g dom (endpoint_index (write c w).state e)

      ruled : Bool
      ruled = not (is_in dom (attachment_of e (own c g).endpoints (part c g w).attachments)) && any? (λ r. of_key (key_of (own c g).guest dom) r && on_region (regions_of e (own c g).endpoints (own c g).regions) r) (part c g w).records

      same : listed e (own c g).endpoints ≡ true → dom.0 < domain_span → flatly ≡ ruled
      same l s =
          ap (λ (b : Bool). not b && barred_from (write c w) g dom (endpoint_index (write c w).state e)) (ap (λ (n : ℕ). is_in_domain (write c w).state n dom) (place_is e) ∙ in-domain c k w h g m e (owner_here e l) dom)
          ∙ ap (λ (b : Bool). not (is_in dom (attachment_of e (own c g).endpoints (part c g w).attachments)) && b) (barred-is dom e l s)

      go : (b : Bool) → listed e (own c g).endpoints ≡ b → (o : Bool) → outside (own c g).domains.start (own c g).domains.end dom.0 ≡ o
          → status_of (attach_chain (not (eqb z 0)) (not b) o flatly) ≡ status_of (attach_chain (not (eqb z 0)) (not b) o ruled)
      go true x true y = refl
      go true x false y = ap (λ (b : Bool). status_of (attach_chain (not (eqb z 0)) false false b)) (same x (omega (arith, outside_high (own c g).domains.start (own c g).domains.end dom.0 y, facts.narrow)))
      go false x o y = refl

  pub attach-written : (dom : Domain) (e : Endpoint) (z : ℕ) → flat.handle_attach (write c w) g dom e z ≡ with_status (handle_attach (own c g) (part c g w) dom e z).0 (write c (replace c g (handle_attach (own c g) (part c g w) dom e z).1 w))
  unfolding flat.handle_attach handle_attach
  attach-written dom e z =
      ap (λ n. settled n (write c w) (flat.move_to (write c w) g (endpoint_index (write c w).state e) dom)) (attach-status dom e z)
      ∙ settled-written c w g (attach_steps (own c g) (part c g w) dom e z) (write c w) (flat.move_to (write c w) g (endpoint_index (write c w).state e) dom) (part c g w) (attached (own c g) e dom (part c g w)) refl same-world
      (λ y. ap (λ n. flat.move_to (write c w) g n dom) (place_is e) ∙ moved-written e dom (owner_here e (attaches (own c g) (part c g w) dom e z y).owned))

  -- DETACH

  detach-status : (dom : Domain) (e : Endpoint) (z : ℕ) → detach_status (write c w).state g dom (endpoint_index (write c w).state e) z ≡ status_of (detach_steps (own c g) (part c g w) dom e z)
  unfolding detach_status
  detach-status dom e z =
      ap (λ b. status_of (detach_chain (not (eqb z 0)) (not b) (not there))) (owned-is e)
      ∙ go (listed e (own c g).endpoints) refl
    where
      there : Bool
      there = is_attached (write c w).state (endpoint_index (write c w).state e) && eqb (get_or (write c w).state.domains (endpoint_index (write c w).state e) 0) dom.0

      go : (b : Bool) → listed e (own c g).endpoints ≡ b → status_of (detach_chain (not (eqb z 0)) (not b) (not there)) ≡ status_of (detach_chain (not (eqb z 0)) (not b) (not (is_in dom (attachment_of e (own c g).endpoints (part c g w).attachments))))
      go true x =
          ap (λ b. status_of (detach_chain (not (eqb z 0)) false (not b)))
          (ap (λ n. is_attached (write c w).state n && eqb (get_or (write c w).state.domains n 0) dom.0) (place_is e) ∙ in-domain c k w h g m e (owner_here e x) dom)
      go false x = refl

  pub detach-written : (dom : Domain) (e : Endpoint) (z : ℕ) → flat.handle_detach (write c w) g dom e z ≡ with_status (handle_detach (own c g) (part c g w) dom e z).0 (write c (replace c g (handle_detach (own c g) (part c g w) dom e z).1 w))
  unfolding flat.handle_detach handle_detach
  detach-written dom e z =
      ap (λ n. settled n (write c w) (flat.leave (write c w) g (endpoint_index (write c w).state e) dom)) (detach-status dom e z)
      ∙ settled-written c w g (detach_steps (own c g) (part c g w) dom e z) (write c w) (flat.leave (write c w) g (endpoint_index (write c w).state e) dom) (part c g w) (leave (own c g) e dom (part c g w)) refl same-world
      (λ y.
      let s = detaches (own c g) (part c g w) dom e z y in
      ap (λ n. flat.leave (write c w) g n dom) (place_is e) ∙ left-written c k w h g m e (owner_here e s.owned) dom (in-here e dom s.here))
    where
      in-here : (e : Endpoint) (dom : Domain) → is_in dom (attachment_of e (own c g).endpoints (part c g w).attachments) ≡ true → dom.0 < domain_span
      in-here e dom x = go (attachment_of e (own c g).endpoints (part c g w).attachments) refl x
        where
          go : (a : Attachment) → attachment_of e (own c g).endpoints (part c g w).attachments ≡ a → is_in dom a ≡ true → dom.0 < domain_span
          go none y i = unfold is_in in true-false false i refl
          go (some was) y i = unfold is_in in (let same = eqb-true was.0 dom.0 i in omega (arith, small-domain e was y, same))

  -- MAP AND UNMAP

  exists-is : (dom : Domain) → flat.domain_exists (write c w).state g dom ≡ domain_exists dom (part c g w).attachments
  exists-is dom = unfold write part in exists-written c good-c w h.attachments g dom

  existing-small : (dom : Domain) → domain_exists dom (part c g w).attachments ≡ true → dom.0 < domain_span
  existing-small dom x = omega (arith, outside_high (own c g).domains.start (own c g).domains.end dom.0 (in-range (own c g) dom (part c g w).attachments x facts.attachments), facts.narrow)

  overlap-is : (dom : Domain) (r : Mapping) → dom.0 < domain_span → r.key ≡ key_of g dom → any? (overlap r) (live_records (write c w)) ≡ any? (overlap r) (part c g w).records
  overlap-is dom r s e = ap (λ (l : List Mapping). any? (overlap r) l) live-is ∙ unfold part in sym (any_of g (overlap r) w.records (λ x y. same x y))
    where
      same : (x : Mapping) → overlap r x ≡ true → guest_of x ≡ g.0
      same x y = unfold overlap in of-key-mine g dom x s (unfold of_key in eq-eqb x.key (key_of g dom) (sym (eqb-true r.key x.key (both_left (eqb r.key x.key) _ y)) ∙ e))

  regions-is : (dom : Domain) (r : Mapping) → flat.on_regions (write c w).state g dom r ≡ on_region (regions_in dom (part c g w).attachments (own c g).regions) r
  unfolding write own part
  regions-is dom r = on-regions c k good-c w h.attachments g dom r

  held-is : leb (share (write c w).state.settings g.0) (length (records_of g (live_records (write c w)))) ≡ leb (own c g).share (length (part c g w).records)
  held-is = ap (λ (s : Settings). leb (share s g.0) (length (records_of g (live_records (write c w))))) settings-is ∙ ap (λ (l : List Mapping). leb (share c.settings g.0) (length (records_of g l))) live-is ∙ unfold own part in refl

  map-status : (dom : Domain) (r : Mapping) → r.key ≡ key_of g dom → map_status (write c w) g dom r ≡ status_of (map_steps (own c g) (part c g w) dom r)
  unfolding map_status
  map-status dom r e =
      ap (λ (x : Config). status_of (map_chain (not (flat.domain_exists (write c w).state g dom)) (form_steps (own x g) r) meets barred full)) config-is
      ∙ ap (λ b. status_of (map_chain (not b) (form_steps (own c g) r) meets barred full)) (exists-is dom)
      ∙ go (domain_exists dom (part c g w).attachments) refl
    where
      meets : Bool
      meets = any? (overlap r) (live_records (write c w))

      barred : Bool
      barred = flat.on_regions (write c w).state g dom r

      full : Bool
      full = leb (share (write c w).state.settings g.0) (length (records_of g (live_records (write c w))))

      go : (b : Bool) → domain_exists dom (part c g w).attachments ≡ b → status_of (map_chain (not b) (form_steps (own c g) r) meets barred full)
          ≡ status_of (map_chain (not b) (form_steps (own c g) r) (any? (overlap r) (part c g w).records) (on_region (regions_in dom (part c g w).attachments (own c g).regions) r) (leb (own c g).share (length (part c g w).records)))
      go true x =
          ap (λ o. status_of (map_chain false (form_steps (own c g) r) o barred full)) (overlap-is dom r (existing-small dom x) e)
          ∙ ap (λ q. status_of (map_chain false (form_steps (own c g) r) (any? (overlap r) (part c g w).records) q full)) (regions-is dom r)
          ∙ ap (λ u. status_of (map_chain false (form_steps (own c g) r) (any? (overlap r) (part c g w).records) (on_region (regions_in dom (part c g w).attachments (own c g).regions) r) u)) held-is
      go false x = refl

  -- while the guest holds less than its share there is room
  room : length (part c g w).records < (own c g).share → length w.records < max_records
  room l =
      rw (sym (ap (λ (x : World). length x.records) (read-write c w h)))
      (room-within-share (write c w) (write-sound c w h) g
      (subst (λ (x : Config). g.0 < x.settings.guests) (sym config-is) m)
      (subst (λ (x : Config). length (part x g (read (write c w))).records < share x.settings g.0) (sym config-is) (rw (read-write c w h) (unfold own in l))))

  pub map-written : (dom : Domain) (r : Mapping) → r.key ≡ key_of g dom → map_counted (write c w) g dom r ≡ with_status (handle_map (own c g) (part c g w) dom r).0 (write c (replace c g (handle_map (own c g) (part c g w) dom r).1 w))
  unfolding map_counted handle_map
  map-written dom r e =
      ap (λ n. settled n (write c w) (inserted (write c w) r)) (map-status dom r e)
      ∙ settled-written c w g (map_steps (own c g) (part c g w) dom r) (write c w) (inserted (write c w) r) (part c g w) (with_records (insert_mapping r (part c g w).records) (part c g w)) (unfold form_steps in refl) same-world go
    where
      go : Clear (map_steps (own c g) (part c g w) dom r) → inserted (write c w) r ≡ write c (replace c g (with_records (insert_mapping r (part c g w).records) (part c g w)) w)
      go y =
          let s = maps (own c g) (part c g w) dom r y in
          let guest-is = of-key-mine g dom r (existing-small dom s.early.there) (unfold of_key in eq-eqb r.key (key_of g dom) e) in
          inserted-written c w r (room s.room)
          ∙ sym (ap (λ (v : World). write c v) (replace-records c w h g (insert_mapping r (part c g w).records) ∙ ap (λ (l : List Mapping). with_recs l w) (unfold part in with-inserted g r w.records guest-is h.order)))

  straddle-is : (dom : Domain) (a b : ℕ) → dom.0 < domain_span → any? (straddles (key_of g dom) a b) (live_records (write c w)) ≡ any? (straddles (key_of (own c g).guest dom) a b) (part c g w).records
  straddle-is dom a b s = ap (λ (l : List Mapping). any? (straddles (key_of g dom) a b) l) live-is ∙ unfold own part in sym (any_of g (straddles (key_of g dom) a b) w.records (λ x y. of-key-mine g dom x s (keyed x y)))
    where
      keyed : (x : Mapping) → straddles (key_of g dom) a b x ≡ true → of_key (key_of g dom) x ≡ true
      keyed x y = unfold straddles in both_left (of_key (key_of g dom) x) _ (both_left (of_key (key_of g dom) x && _) _ y)

  unmap-status : (dom : Domain) (a b z : ℕ) → unmap_status (write c w) g dom a b z ≡ status_of (unmap_steps (own c g) (part c g w) dom a b z)
  unfolding unmap_status
  unmap-status dom a b z =
      ap (λ x. status_of (unmap_chain (not x) (not (eqb z 0)) (ltb b a) (any? (straddles (key_of g dom) a b) (live_records (write c w))))) (exists-is dom)
      ∙ go (domain_exists dom (part c g w).attachments) refl
    where
      go : (t : Bool) → domain_exists dom (part c g w).attachments ≡ t → status_of (unmap_chain (not t) (not (eqb z 0)) (ltb b a) (any? (straddles (key_of g dom) a b) (live_records (write c w))))
          ≡ status_of (unmap_chain (not t) (not (eqb z 0)) (ltb b a) (any? (straddles (key_of (own c g).guest dom) a b) (part c g w).records))
      go true x = ap (λ y. status_of (unmap_chain false (not (eqb z 0)) (ltb b a) y)) (straddle-is dom a b (existing-small dom x))
      go false x = refl

  within-inside : (key a b : ℕ) (r : Mapping) → within key key a b r ≡ inside key a b r
  unfolding inside of_key
  within-inside key a b r = ap (λ x. x && (leb a r.start && leb r.end b)) (same_test (leb key r.key && leb r.key key) (eqb r.key key) (λ x. eq-eqb r.key key (both-keys x)) (λ x. let e = eqb-true r.key key x in rw (le-leb key r.key (omega (arith, e)), le-leb r.key key (omega (arith, e)))))
    where
      both-keys : (leb key r.key && leb r.key key) ≡ true → r.key ≡ key
      both-keys x = omega (arith, leb-true key r.key (both_left (leb key r.key) _ x), leb-true r.key key (both_right (leb key r.key) _ x))

  unmapped : (dom : Domain) (a b : ℕ) → dom.0 < domain_span → with_records_of g (without (inside (key_of (own c g).guest dom) a b) (part c g w).records) w.records ≡ keep (λ r. not (within (key_of g dom) (key_of g dom) a b r)) w.records
  unmapped dom a b s =
      unfold own part without in
      (with-kept g (λ r. not (inside (key_of g dom) a b r)) w.records h.order
      ∙ keep_same (λ r. not (mine g r) || not (inside (key_of g dom) a b r)) (λ r. not (within (key_of g dom) (key_of g dom) a b r)) w.records (λ r. rw (within-inside (key_of g dom) a b r) (go r (inside (key_of g dom) a b r) refl)))
    where
      go : (r : Mapping) (t : Bool) → inside (key_of g dom) a b r ≡ t → (not (mine g r) || not t) ≡ not t
      go r true x = rw (eq-eqb (guest_of r) g.0 (of-key-mine g dom r s (unfold inside in both_left (of_key (key_of g dom) r) _ x)))
      go r false x = or-true (not (mine g r))
        where
          or-true : (t : Bool) → (t || true) ≡ true
          or-true true = refl
          or-true false = refl

  pub unmap-written : (dom : Domain) (a b z : ℕ) → flat.handle_unmap (write c w) g dom a b z ≡ with_status (handle_unmap (own c g) (part c g w) dom a b z).0 (write c (replace c g (handle_unmap (own c g) (part c g w) dom a b z).1 w))
  unfolding flat.handle_unmap handle_unmap
  unmap-written dom a b z =
      ap (λ n. settled n (write c w) (removed (write c w) (key_of g dom) (key_of g dom) a b)) (unmap-status dom a b z)
      ∙ settled-written c w g (unmap_steps (own c g) (part c g w) dom a b z) (write c w) (removed (write c w) (key_of g dom) (key_of g dom) a b) (part c g w) (with_records (without (inside (key_of (own c g).guest dom) a b) (part c g w).records) (part c g w)) refl same-world
      (λ y. removed-written c w (fits c w h) (key_of g dom) (key_of g dom) a b
      ∙ sym (ap (λ (v : World). write c v) (replace-records c w h g (without (inside (key_of (own c g).guest dom) a b) (part c g w).records) ∙ ap (λ (l : List Mapping). with_recs l w) (unmapped dom a b (existing-small dom (unmap-there (own c g) (part c g w) dom a b z y))))))

  -- PROBE

  pub probe-status : (e : Endpoint) → probe_status (write c w).state g (endpoint_index (write c w).state e) ≡ status_of (probe_steps (own c g) e)
  probe-status e = ap (λ (b : Bool). cond b OK NOENT) (owned-is e) ∙ go (listed e (own c g).endpoints)
    where
      go : (b : Bool) → cond b OK NOENT ≡ status_of ((not b, NOENT) ∷ [])
      go true = refl
      go false = refl

  -- the regions of the guest's endpoints have the subtypes that set-up takes
  subtypes : (e : Endpoint) → owner_of e c.endpoints c.owners ≡ some g → all? (λ q. leb q.subtype MSI) (held_regions (write c w).state.regions (index_of e.0 c.endpoints)) ≡ true
  unfolding write
  subtypes e owner =
      rw (held-here c k good-c w (index_of e.0 c.endpoints) listed_here)
      (opened (region_tests (regions_at c.regions (index_of e.0 c.endpoints))) (good-c.regions (index_of e.0 c.endpoints) listed_here)).1.0
    where
      listed_here : index_of e.0 c.endpoints < length c.endpoints
      listed_here = place-listed c k w h g m e owner

  pub probe-bytes : (e : Endpoint) → probe_bytes (write c w).state g (endpoint_index (write c w).state e) ≡ probed (own c g) e
  unfolding probe_bytes probed
  probe-bytes e =
      ap (λ (b : Bool). cond b (pad properties_size 0 (properties_put (held_regions (write c w).state.regions (endpoint_index (write c w).state e)))) (replicate properties_size 0)) (owned-is e)
      ∙ go (listed e (own c g).endpoints) refl
    where
      go : (b : Bool) → listed e (own c g).endpoints ≡ b → cond b (pad properties_size 0 (properties_put (held_regions (write c w).state.regions (endpoint_index (write c w).state e)))) (replicate properties_size 0)
          ≡ cond b (pad properties_size 0 (properties_of (regions_of e (own c g).endpoints (own c g).regions))) (replicate properties_size 0)
      go true x =
          ap (λ (l : List ℕ). pad properties_size 0 l)
          (ap (λ (i : ℕ). properties_put (held_regions (write c w).state.regions i)) (place_is e)
          ∙ properties-put (held_regions (write c w).state.regions (index_of e.0 c.endpoints)) (subtypes e (owner_here e x))
          ∙ ap (λ (qs : List Region). properties_of qs) (regions-here e (owner_here e x)))
      go false x = refl

  -- RESET

  key-range : (r : Mapping) → leb r.end top_address ≡ true → within (g.0 * domain_span) (g.0 * domain_span + (domain_span - 1)) 0 top_address r ≡ mine g r
  key-range r t = rw (t, le-leb 0 r.start (omega arith)) (same_test _ _ (λ x. eq-eqb (guest_of r) g.0 (inside-range (leb (g.0 * domain_span) r.key) (leb r.key (g.0 * domain_span + (domain_span - 1))) refl refl x)) (λ x. let e = eqb-true (guest_of r) g.0 x in rw (le-leb (g.0 * domain_span) r.key (omega (arith, e)), le-leb r.key (g.0 * domain_span + (domain_span - 1)) (omega (arith, e)))))
    where
      inside-range : (a b : Bool) → leb (g.0 * domain_span) r.key ≡ a → leb r.key (g.0 * domain_span + (domain_span - 1)) ≡ b → ((a && b) && true) ≡ true → guest_of r ≡ g.0
      inside-range true true p q x = omega (arith, leb-true)
      inside-range true false p q x = true-false true refl (sym x)
      inside-range false b p q x = true-false true refl (sym x)

  all-gone : with_records_of g [] w.records ≡ keep (λ r. not (within (g.0 * domain_span) (g.0 * domain_span + (domain_span - 1)) 0 top_address r)) w.records
  all-gone =
      ap (λ (l : List Mapping). with_records_of g l w.records) (sym (none_kept (records_of g w.records)))
      ∙ with-kept g (λ r. false) w.records h.order
      ∙ keep-agree (λ r. leb r.end top_address) (λ r. not (mine g r) || false) (λ r. not (within (g.0 * domain_span) (g.0 * domain_span + (domain_span - 1)) 0 top_address r)) w.records (ends c w h) (λ r t. rw (key-range r t) (or_no (not (mine g r))))
    where
      none_kept : (l : List Mapping) → keep (λ r. false) l ≡ []
      none_kept [] = refl
      none_kept (x ∷ l) = none_kept l

      or_no : (t : Bool) → (t || false) ≡ t
      or_no true = refl
      or_no false = refl

  pub reset-written : reset_guest (write c w) g ≡ write c (replace c g (after_reset (part c g w)) w)
  unfolding reset_guest after_reset replace
  reset-written =
      ap (λ (s : State). removed (device s (write c w).table) (g.0 * domain_span) (g.0 * domain_span + (domain_span - 1)) 0 top_address) cleared
      ∙ fewer
      ∙ ap (λ (l : List Mapping). write c (record { attachments = weave_by g.0 c.owners w.attachments (replicate (length (part c g w).attachments) none); records = l; logs = set w.logs g.0 no_log })) (sym all-gone)
    where
      new : World
      new = record { attachments = weave_by g.0 c.owners w.attachments (replicate (length (part c g w).attachments) none); records = w.records; logs = set w.logs g.0 no_log }

      cleared : guest_cleared (write c w).state g ≡ state_of c new
      cleared = unfold write part in cleared-written c w h g.0 m

      fewer : removed (device (state_of c new) (write c w).table) (g.0 * domain_span) (g.0 * domain_span + (domain_span - 1)) 0 top_address ≡ write c (with_recs (keep (λ r. not (within (g.0 * domain_span) (g.0 * domain_span + (domain_span - 1)) 0 top_address r)) w.records) new)
      fewer = unfold write in removed-written c new (fits c w h) (g.0 * domain_span) (g.0 * domain_span + (domain_span - 1)) 0 top_address

  -- A FAULT LOGGED, FAULTS FETCHED

  replace-log : (l : Log) → replace c g (with_log l (part c g w)) w ≡ with_logs (set w.logs g.0 l) w
  replace-log l = unfold replace in rw (attachments-same c w h g, records-same c w h g)

  pub fault-written : (f : Fault) → device (log_fault (write c w).state g f) (write c w).table ≡ write c (replace c g (with_log (logged f (part c g w).log) (part c g w)) w)
  fault-written f = rw (replace-log (logged f (part c g w).log)) (unfold write part in rw (logged-written c w h g.0 m f))

  pub fetch-written : (n : ℕ) → device (drop_faults (write c w).state g n) (write c w).table ≡ write c (replace c g (with_log (fetched_from n (part c g w).log) (part c g w)) w)
  fetch-written n = rw (replace-log (fetched_from n (part c g w).log)) (unfold write part in rw (dropped-written c w h g.0 m n))
