-- Endpoints that leave and enter domains, on the arrays and words, against the rules on the guest's part.
use Prim.Native.Nat.{ℕ, ◌/◌, ◌≤◌, ◌<◌}
use mathlib.Core.Path.{◌≡◌, refl, sym, ap, ◌∙◌}
use mathlib.Core.Bool.{Bool, true, false, cond, not, ◌&&◌, ◌||◌}
use mathlib.Core.List.{List, [], ◌∷◌}
use mathlib.Core.Option.{some, none}
use native.Mathlib.Omega.{arith}
use lib.Dec.{leb, ltb, eqb}
use lib.ListN.{length, get_or, set, length-set}
use lib.Seq.{set-set}
use borrow.Author.Tests.{ltb-true, leb-true, eqb-true, eq-eqb, le-leb}
use Rattle.laws.specs.Lists.{all?, keep, pick_by, weave_by}
use Rattle.laws.proofs.Tests.{both_left, both_right, true-false, same_test, Clear}
use Rattle.laws.proofs.Filters.{all-imp}
use Rattle.laws.proofs.Tables.{get_d-tab}
use Rattle.laws.proofs.Owners.{pick-weave}
use Rattle.rules.specs.declared.Guest.{Guest}
use Rattle.rules.specs.declared.Endpoint.{Endpoint}
use Rattle.rules.specs.declared.Domain.{Domain}
use Rattle.rules.specs.declared.Mapping.{Mapping}
use Rattle.rules.specs.Sizes.{domain_span, max_endpoints, top_address}
use Rattle.rules.specs.Configuration.{Config}
use Rattle.rules.specs.Table.{key_of, guest_of}
use Rattle.rules.specs.State.{Attachment, World, Device, flag_of, number_of, state_of, write}
use Rattle.rules.specs.Guests.{Own, Part, own, part, replace, records_of, with_records_of}
use Rattle.rules.specs.Handlers.{is_in, domain_exists, attachment_of, attached_as, of_key, without, leave, enter, form_steps}
use Rattle.rules.specs.Sound.{guest, record_good}
use Rattle.rules.specs.Device.{owner_of}
use Rattle.rules.proofs.Records.{mine, key-guest, all-guests}
use Rattle.rules.proofs.Attachments.{length-attached_as}
use Rattle.rules.proofs.Groups.{Good, good-facts}
use Rattle.rules.proofs.Parts.{record-form}
use Rattle.rules.proofs.Worlds.{Whole}
use Rattle.rules.proofs.Chains.{formed}
use Rattle.rules.proofs.Shares.{fits}
use Rattle.rules.proofs.Writing.{kept}
use Rattle.table_remove.specs.Removed.{within}
use Rattle.state_endpoints.specs.Changes.{attach_at}
use Rattle.state_endpoints.specs.Search.{index_of}
use Rattle.refinement.specs.Flat.{device, is_attached, removed, no_domain}
use Rattle.refinement.specs.Flat as flat
use Rattle.rules.proofs.PutBack.{with-kept}
use Rattle.rules.proofs.Unchanged.{attachments-same, records-same, logs-same}
use Rattle.refinement.proofs.Places.{owner_of-at, attachment-at, attached-at}
use Rattle.refinement.proofs.Written.{with_atts, with_recs, attached-written, exists-written, removed-written}

-- two filters that agree on what all elements pass
pub keep-agree : {A : Type 0} (t q r : A → Bool) (l : List A) → all? t l ≡ true → ((x : A) → t x ≡ true → q x ≡ r x) → keep q l ≡ keep r l
keep-agree t q r [] h f = refl
keep-agree t q r (x ∷ l) h f = rw (f x (both_left (t x) _ h), keep-agree t q r l (both_right (t x) _ h) f)

-- THE WORLD PUT BACK

module _ (c : Config) (w : World) (h : Whole c w) (g : Guest) where
  -- a part with other attachments, other records, or another log
  pub replace-attachments : (l : List Attachment) → replace c g (record { attachments = l; records = (part c g w).records; log = (part c g w).log }) w ≡ with_atts (weave_by g.0 c.owners w.attachments l) w
  replace-attachments l = unfold replace in rw (records-same c w h g, logs-same c w h g)

  pub replace-records : (l : List Mapping) → replace c g (record { attachments = (part c g w).attachments; records = l; log = (part c g w).log }) w ≡ with_recs (with_records_of g l w.records) w
  replace-records l = unfold replace in rw (attachments-same c w h g, logs-same c w h g)

  pub replace-both : (a : List Attachment) (l : List Mapping) → replace c g (record { attachments = a; records = l; log = (part c g w).log }) w ≡ with_atts (weave_by g.0 c.owners w.attachments a) (with_recs (with_records_of g l w.records) w)
  replace-both a l = unfold replace in rw (logs-same c w h g)

-- EVERY RECORD ENDS BY THE TOP ADDRESS

module _ (c : Config) (w : World) (h : Whole c w) where
  top : c.settings.input.end ≤ top_address
  top = omega (arith, (good-facts c h.config).top)

  -- by the guest's facts
  form-end : (g : Guest) (r : Mapping) → Clear (form_steps (own c g) r) → leb r.end top_address ≡ true
  form-end g r f =
      let h : r.end ≤ c.settings.input.end = unfold own in (formed (own c g) r f).end-within.1 in
      le-leb r.end top_address (omega (arith, top))

  pub ends : all? (λ r. leb r.end top_address) w.records ≡ true
  ends = all-guests c.settings.guests (λ n r. leb r.end top_address) w.records h.guests (λ n l. unfold part in all-imp (record_good (own c (guest n)) (part c (guest n) w).attachments) (λ r. leb r.end top_address) (records_of (guest n) w.records) (λ r k. form-end (guest n) r (record-form (own c (guest n)) (part c (guest n) w).attachments r k)) (h.parts (guest n) l).records)

-- a record of the key is of the key's guest
pub of-key-mine : (g : Guest) (dom : Domain) (r : Mapping) → dom.0 < domain_span → of_key (key_of g dom) r ≡ true → guest_of r ≡ g.0
unfolding of_key
of-key-mine g dom r s e = ap (λ n. n / domain_span) (eqb-true r.key (key_of g dom) e) ∙ key-guest g.0 dom.0 s

-- all of one domain's records, as a range of keys and addresses
within-key : (key : ℕ) (r : Mapping) → leb r.end top_address ≡ true → within key key 0 top_address r ≡ of_key key r
unfolding of_key
within-key key r t = rw (t, le-leb 0 r.start (omega arith)) (same_test _ _ (λ x. eq-eqb r.key key (both-keys (leb key r.key) (leb r.key key) refl refl x)) (λ x. let e = eqb-true r.key key x in rw (le-leb key r.key (omega (arith, e)), le-leb r.key key (omega (arith, e)))))
  where
    both-keys : (a b : Bool) → leb key r.key ≡ a → leb r.key key ≡ b → ((a && b) && true) ≡ true → r.key ≡ key
    both-keys true true p q x = omega (arith, leb-true)
    both-keys true false p q x = true-false true refl (sym x)
    both-keys false b p q x = true-false true refl (sym x)

-- LEAVING, ENTERING, MOVING

module _ (c : Config) (k : kept c ≡ c) (w : World) (h : Whole c w) (g : Guest) (m : g.0 < c.settings.guests) (e : Endpoint) (owner : owner_of e c.endpoints c.owners ≡ some g) where
  abbrev o : Own
  o = own c g

  abbrev p : Part
  p = part c g w

  abbrev place : ℕ
  place = index_of e.0 c.endpoints

  abbrev here : Attachment
  here = get_or w.attachments (index_of e.0 c.endpoints) none

  good-c : Good c
  good-c = good-facts c h.config

  owners-size : length c.owners ≡ length c.endpoints
  owners-size = sym good-c.sizes

  size : length w.attachments ≡ length c.endpoints
  size = h.attachments ∙ owners-size

  pub place-listed : index_of e.0 c.endpoints < length c.endpoints
  place-listed = go (ltb (index_of e.0 c.endpoints) (length c.endpoints)) refl (sym (owner_of-at e c.endpoints c.owners owners-size) ∙ owner)
    where
      go : (b : Bool) → ltb (index_of e.0 c.endpoints) (length c.endpoints) ≡ b → cond b (some (guest (get_or c.owners (index_of e.0 c.endpoints) 0))) none ≡ some g → index_of e.0 c.endpoints < length c.endpoints
      go true x y = ltb-true _ _ x
      go false x y = absurd (let z : ◌≡◌ {A = ℕ} 0 1 = cc in omega arith)

  in-atts : index_of e.0 c.endpoints < length w.attachments
  in-atts = rw size place-listed

  -- its attachment, and a change of it
  pub attachment-here : attachment_of e (own c g).endpoints (part c g w).attachments ≡ get_or w.attachments (index_of e.0 c.endpoints) none
  attachment-here = unfold own part in attachment-at e g c.endpoints c.owners w.attachments owners-size size owner

  changed : (a : Attachment) → weave_by g.0 c.owners w.attachments (attached_as e a (own c g).endpoints (part c g w).attachments) ≡ set w.attachments (index_of e.0 c.endpoints) a
  changed a = unfold own part in attached-at e a g c.endpoints c.owners w.attachments owners-size size owner

  exists-after : (a : Attachment) (dom : Domain) → flat.domain_exists (state_of c (with_atts (set w.attachments (index_of e.0 c.endpoints) a) w)) g dom ≡ domain_exists dom (attached_as e a (own c g).endpoints (part c g w).attachments)
  exists-after a dom =
      exists-written c good-c (with_atts (set w.attachments (index_of e.0 c.endpoints) a) w) (length-set w.attachments _ a ∙ h.attachments) g dom
      ∙ ap (λ (l : List Attachment). domain_exists dom (pick_by g.0 c.owners l)) (sym (changed a))
      ∙ ap (λ (l : List Attachment). domain_exists dom l) (pick-weave g.0 c.owners w.attachments (attached_as e a (own c g).endpoints (part c g w).attachments) (length-attached_as e a (own c g).endpoints (part c g w).attachments ∙ unfold part in refl))

  -- the records of a domain that goes, on the whole table
  gone-records : (dom : Domain) → dom.0 < domain_span → with_records_of g (keep (λ r. not (of_key (key_of (own c g).guest dom) r)) (part c g w).records) w.records ≡ keep (λ r. not (within (key_of g dom) (key_of g dom) 0 top_address r)) w.records
  gone-records dom s =
      unfold own part in
      (with-kept g (λ r. not (of_key (key_of g dom) r)) w.records h.order
      ∙ keep-agree (λ r. leb r.end top_address) (λ r. not (mine g r) || not (of_key (key_of g dom) r)) (λ r. not (within (key_of g dom) (key_of g dom) 0 top_address r)) w.records (ends c w h) (λ r t. rw (within-key (key_of g dom) r t) (go r (of_key (key_of g dom) r) refl)))
    where
      go : (r : Mapping) (b : Bool) → of_key (key_of g dom) r ≡ b → (not (mine g r) || not b) ≡ not b
      go r true x = rw (eq-eqb (guest_of r) g.0 (of-key-mine g dom r s x))
      go r false x = or-true (not (mine g r))
        where
          or-true : (t : Bool) → (t || true) ≡ true
          or-true true = refl
          or-true false = refl

  pub left-written : (dom : Domain) → dom.0 < domain_span → flat.leave (write c w) g (index_of e.0 c.endpoints) dom ≡ write c (replace c g (leave (own c g) e dom (part c g w)) w)
  left-written dom s =
      unfold flat.leave leave without in
      (rw (detached-state, exists-after none dom)
      (go (domain_exists dom (attached_as e none (own c g).endpoints (part c g w).attachments))))
    where
      detached-state : attach_at (write c w).state (index_of e.0 c.endpoints) 0 no_domain ≡ state_of c (with_atts (set w.attachments (index_of e.0 c.endpoints) none) w)
      detached-state = unfold write in attached-written c w (index_of e.0 c.endpoints) none in-atts

      fewer : removed (device (state_of c (with_atts (set w.attachments (index_of e.0 c.endpoints) none) w)) (write c w).table) (key_of g dom) (key_of g dom) 0 top_address
          ≡ write c (with_atts (set w.attachments (index_of e.0 c.endpoints) none) (with_recs (keep (λ r. not (within (key_of g dom) (key_of g dom) 0 top_address r)) w.records) w))
      fewer = unfold write in removed-written c (with_atts (set w.attachments (index_of e.0 c.endpoints) none) w) (fits c w h) (key_of g dom) (key_of g dom) 0 top_address

      go : (b : Bool) → cond b (device (state_of c (with_atts (set w.attachments (index_of e.0 c.endpoints) none) w)) (write c w).table) (removed (device (state_of c (with_atts (set w.attachments (index_of e.0 c.endpoints) none) w)) (write c w).table) (key_of g dom) (key_of g dom) 0 top_address)
          ≡ write c (replace c g (record { attachments = attached_as e none (own c g).endpoints (part c g w).attachments; records = keep (λ r. not (not b && of_key (key_of (own c g).guest dom) r)) (part c g w).records; log = (part c g w).log }) w)
      go true =
          sym (ap (λ (v : World). write c v) (replace-both c w h g (attached_as e none (own c g).endpoints (part c g w).attachments) (keep (λ r. true) (part c g w).records)) ∙ unfold write in rw (changed none, all_true (part c g w).records, records-same c w h g))
        where
          all_true : (l : List Mapping) → keep (λ r. true) l ≡ l
          all_true [] = refl
          all_true (x ∷ l) = ap (λ n. x ∷ n) (all_true l)
      go false =
          fewer
          ∙ sym (ap (λ (v : World). write c v) (replace-both c w h g (attached_as e none (own c g).endpoints (part c g w).attachments) (keep (λ r. not (of_key (key_of (own c g).guest dom) r)) (part c g w).records)) ∙ rw (changed none, gone-records dom s))

  -- detached and attached again is attached
  again : (a b : Attachment) (es : List ℕ) (l : List Attachment) → attached_as e b es (attached_as e a es l) ≡ attached_as e b es l
  again a b [] l = refl
  again a b (n ∷ es) [] = refl
  again a b (n ∷ es) (x ∷ l) = go (eqb n e.0) refl (again a b es l)
    where
      go : (t : Bool) → eqb n e.0 ≡ t → attached_as e b es (attached_as e a es l) ≡ attached_as e b es l → attached_as e b (n ∷ es) (cond t (a ∷ l) (x ∷ attached_as e a es l)) ≡ cond t (b ∷ l) (x ∷ attached_as e b es l)
      go true y i = rw y
      go false y i = rw (y, i)

  pub entered-written : (dom : Domain) → flat.enter (write c w) (index_of e.0 c.endpoints) dom ≡ write c (replace c g (enter (own c g) e dom (part c g w)) w)
  entered-written dom =
      unfold flat.enter enter in
      (state ∙ sym (ap (λ (v : World). write c v) (replace-attachments c w h g (attached_as e (some dom) (own c g).endpoints (part c g w).attachments))))
    where
      state : device (attach_at (write c w).state (index_of e.0 c.endpoints) 1 dom) (write c w).table ≡ write c (with_atts (weave_by g.0 c.owners w.attachments (attached_as e (some dom) (own c g).endpoints (part c g w).attachments)) w)
      state = rw (changed (some dom)) (unfold write in rw (attached-written c w (index_of e.0 c.endpoints) (some dom) in-atts))

  -- out of one domain and into another
  pub moved_on : (was dom : Domain) → was.0 < domain_span → flat.enter (flat.leave (write c w) g (index_of e.0 c.endpoints) was) (index_of e.0 c.endpoints) dom ≡ write c (replace c g (enter (own c g) e dom (leave (own c g) e was (part c g w))) w)
  moved_on was dom s =
      ap (λ (v : Device). flat.enter v (index_of e.0 c.endpoints) dom) (left-written was s)
      ∙ unfold leave enter in
      (ap (λ (v : World). flat.enter (write c v) (index_of e.0 c.endpoints) dom) (replace-both c w h g none-now rest ∙ rw (changed none))
      ∙ entering
      ∙ sym (ap (λ (v : World). write c v) (replace-both c w h g (attached_as e (some dom) (own c g).endpoints none-now) rest ∙ rw (again none (some dom) (own c g).endpoints (part c g w).attachments, changed (some dom)))))
    where
      none-now : List Attachment
      none-now = attached_as e none (own c g).endpoints (part c g w).attachments

      rest : List Mapping
      rest = without (λ r. not (domain_exists was (attached_as e none (own c g).endpoints (part c g w).attachments)) && of_key (key_of (own c g).guest was) r) (part c g w).records

      v1 : World
      v1 = with_atts (set w.attachments (index_of e.0 c.endpoints) none) (with_recs (with_records_of g rest w.records) w)

      entering : flat.enter (write c v1) (index_of e.0 c.endpoints) dom ≡ write c (with_atts (set w.attachments (index_of e.0 c.endpoints) (some dom)) (with_recs (with_records_of g rest w.records) w))
      entering = unfold flat.enter write in rw (attached-written c v1 (index_of e.0 c.endpoints) (some dom) (rw (length-set w.attachments (index_of e.0 c.endpoints) none) in-atts), set-set w.attachments (index_of e.0 c.endpoints) none (some dom))

  -- what the arrays say at the endpoint's place
  small-place : index_of e.0 c.endpoints < max_endpoints
  small-place = omega (arith, place-listed, good-c.few)

  pub flag-here : is_attached (write c w).state (index_of e.0 c.endpoints) ≡ eqb (flag_of (get_or w.attachments (index_of e.0 c.endpoints) none)) 1
  flag-here = unfold write state_of in rw (get_d-tab max_endpoints (λ j. flag_of (get_or w.attachments j none)) (index_of e.0 c.endpoints) 0 small-place)

  pub number-here : get_or (write c w).state.domains (index_of e.0 c.endpoints) 0 ≡ number_of (get_or w.attachments (index_of e.0 c.endpoints) none)
  number-here = unfold write state_of in get_d-tab max_endpoints (λ j. number_of (get_or w.attachments j none)) (index_of e.0 c.endpoints) 0 small-place

  pub in-domain : (dom : Domain) → (is_attached (write c w).state (index_of e.0 c.endpoints) && eqb (get_or (write c w).state.domains (index_of e.0 c.endpoints) 0) dom.0) ≡ is_in dom (attachment_of e (own c g).endpoints (part c g w).attachments)
  in-domain dom = rw (flag-here, number-here, attachment-here) (go (get_or w.attachments (index_of e.0 c.endpoints) none))
    where
      go : (a : Attachment) → (eqb (flag_of a) 1 && eqb (number_of a) dom.0) ≡ is_in dom a
      go none = unfold is_in in refl
      go (some x) = unfold is_in in refl
