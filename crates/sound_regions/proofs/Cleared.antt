-- What soundness asks of the reserved regions record by record is what the code tests endpoint by endpoint.
use Prim.Native.Nat.{ℕ, ◌+◌, ◌*◌, ◌≤◌, ◌<◌}
use mathlib.Core.Path.{◌≡◌, refl, sym, ap, ◌∙◌}
use mathlib.Core.Bool.{Bool, true, false, cond, not, ◌&&◌, ◌||◌, and-true}
use mathlib.Core.List.{List, [], ◌∷◌}
use mathlib.Core.Logic.{◌⊎◌, inl, inr}
use mathlib.Core.Option.{some, none}
use native.Mathlib.Omega.{arith}
use lib.Dec.{ltb, eqb}
use lib.ListN.{length, get_or, take}
use lib.Seq.{get_or-take}
use borrow.Author.Tests.{ltb-false, eqb-true, eq-eqb, le-leb, not-true}
use Rattle.laws.specs.Lists.{all?, any?, every?, below, pick_by, tab}
use Rattle.laws.proofs.Tests.{both, both_left, both_right, true-false, or_cases, nor, same_test}
use Rattle.laws.proofs.Filters.{all-imp, none_passes}
use Rattle.laws.proofs.Tables.{below_at, below_all, length-tab, get_d-tab}
use Rattle.rules.specs.declared.Region.{Region}
use Rattle.rules.specs.declared.Mapping.{Mapping}
use Rattle.rules.specs.Sizes.{max_endpoints, max_regions, endpoint_region_words, domain_span}
use Rattle.rules.specs.Configuration.{region_count, regions_at, meets}
use Rattle.rules.specs.Table.{records, guest_of, domain_of}
use Rattle.rules.specs.State.{Attachment, Device, attachment, attachment_at, config_of, read}
use Rattle.rules.specs.Guests.{own, part}
use Rattle.rules.specs.Handlers.{outside, is_in, of_key, regions_in, on_region}
use Rattle.rules.specs.Sound.{attachment_good, off_regions, record_clear, region_zeros, reserved_tests}
use Rattle.rules.proofs.Groups.{Good, good-facts, Framed, Placed}
use Rattle.rules.proofs.Regions.{regions-agree, region-count}
use Rattle.state_regions.specs.Held.{held_regions}
use Rattle.state_regions.proofs.Regions.{held-is}
use Rattle.state_regions.proofs.InDomain.{found, regions-at, regions-from}
use Rattle.table_search.proofs.Ordered.{InOrder}
use Rattle.table_reserved.specs.Reserved.{regions_met}
use Rattle.table_reserved.proofs.Swapped.{regions-met}
use Rattle.sound_regions.specs.Clear.{key_at, endpoint_clear, regions_good}

-- none passes, where each fails
fails-all : {A : Type 0} (q : A → Bool) (l : List A) → all? (λ x. not (q x)) l ≡ true → any? q l ≡ false
fails-all q [] h = refl
fails-all q (x ∷ l) h = go (q x) h (λ k. fails-all q l k)
  where
    go : (b : Bool) → (not b && all? (λ y. not (q y)) l) ≡ true → (all? (λ y. not (q y)) l ≡ true → any? q l ≡ false) → (b || any? q l) ≡ false
    go true h i = true-false true refl (sym h)
    go false h i = i h

-- an endpoint is in a domain by its attached flag and the domain beside it
in-domain : (flag n m : ℕ) → is_in (record { 0 = m }) (attachment flag n) ≡ (eqb flag 1 && eqb n m)
unfolding is_in
in-domain flag n m = go (eqb flag 1)
  where
    go : (b : Bool) → is_in (record { 0 = m }) (cond b (some (record { 0 = n })) none) ≡ (b && eqb n m)
    go true = refl
    go false = refl

-- a key is that of a record by guest and by domain
key-is : (g n : ℕ) (r : Mapping) → n < domain_span → of_key (g * domain_span + n) r ≡ (eqb g (guest_of r) && eqb n (domain_of r).0)
unfolding of_key
key-is g n r h =
    same_test (eqb r.key (g * domain_span + n)) (eqb g (guest_of r) && eqb n (domain_of r).0)
    (λ e. let k : r.key ≡ g * domain_span + n = eqb-true _ _ e in both (eqb g (guest_of r)) (eqb n (domain_of r).0) (eq-eqb g (guest_of r) (omega arith)) (eq-eqb n (domain_of r).0 (omega arith)))
    (λ e.
    let a : g ≡ guest_of r = eqb-true _ _ (both_left (eqb g (guest_of r)) _ e) in
    let b : n ≡ (domain_of r).0 = eqb-true _ _ (both_right (eqb g (guest_of r)) _ e) in
    eq-eqb r.key (g * domain_span + n) (omega arith))

module _ (d : Device) (f : Framed d) (p : Placed d.state) where
  abbrev n : ℕ
  n = d.state.listed

  abbrev owners : List ℕ
  owners = d.state.owners

  abbrev attached : List ℕ
  attached = d.state.attached

  abbrev domains : List ℕ
  domains = d.state.domains

  abbrev live : List Mapping
  live = take d.state.live (records d.table)

  configured : Good (config_of d.state)
  configured = good-facts (config_of d.state) f.config

  few : n ≤ max_endpoints
  few = omega (arith, f.listed, configured.few)

  length-owners : length (take n owners) ≡ n
  unfolding config_of
  length-owners = sym configured.sizes ∙ f.listed

  -- an endpoint's domain has 32 bits
  narrow_at : (i : ℕ) → i < n → get_or domains i 0 < domain_span
  unfolding config_of attachment_good outside
  narrow_at i h = go (or_cases (eqb (get_or attached i 0) 1 && not (ltb k low || ltb high k)) (eqb (get_or attached i 0) 0 && eqb k 0) (p.attachments i h))
    where
      k : ℕ
      k = get_or domains i 0

      low : ℕ
      low = d.state.settings.domains.start

      high : ℕ
      high = d.state.settings.domains.end

      go : ((eqb (get_or attached i 0) 1 && not (ltb k low || ltb high k)) ≡ true) ⊎ ((eqb (get_or attached i 0) 0 && eqb k 0) ≡ true) → k < domain_span
      go (inl a) = omega (arith, ltb-false high k (nor (ltb k low) (ltb high k) (not-true _ (both_right (eqb (get_or attached i 0) 1) _ a))).1, configured.narrow)
      go (inr a) = omega (arith, eqb-true k 0 (both_right (eqb (get_or attached i 0) 0) _ a))

  -- its regions, off the state's words and off the configuration's
  regions-here : (i : ℕ) → i < n → regions_at (config_of d.state).regions i ≡ held_regions d.state.regions i
  unfolding config_of
  regions-here i h = regions-agree (take (endpoint_region_words * n) words) words i at_most (λ k l m. get_or-take (endpoint_region_words * n) words _ 0 (omega arith)) ∙ sym (held-is words i (omega (arith, few)) at_most)
    where
      words : List ℕ
      words = d.state.regions

      at_most : region_count words i ≤ max_regions
      at_most = rw (get_or-take (endpoint_region_words * n) words (endpoint_region_words * i) 0 (omega arith)) at (region-count (take (endpoint_region_words * n) words) i (configured.regions i (rw f.listed h)))

  -- the record is of the domain beside the endpoint's flag, and on one of its regions
  abbrev bars : ℕ → Mapping → Bool
  bars i r = of_key (key_at d.state i) r && on_region (held_regions d.state.regions i) r

  -- ONE RECORD

  module _ (r : Mapping) where
    abbrev q : Region → Bool
    q = meets r.start r.end

    -- the owners, the attachments and the regions that its guest's are picked from
    abbrev os : List ℕ
    os = take n owners

    abbrev ats : List Attachment
    ats = tab n (attachment_at d.state)

    abbrev rs : List (List Region)
    rs = tab (length (take n d.state.endpoints)) (regions_at (take (endpoint_region_words * n) d.state.regions))

    length-regions : length rs ≡ n
    unfolding config_of
    length-regions = length-tab (length (take n d.state.endpoints)) _ ∙ f.listed

    length-attachments : length ats ≡ n
    length-attachments = length-tab n (attachment_at d.state)

    as_many : length ats ≡ length rs
    as_many = length-attachments ∙ sym length-regions

    region-at : (i : ℕ) → i < n → get_or rs i [] ≡ held_regions d.state.regions i
    unfolding config_of
    region-at i h = get_d-tab (length (take n d.state.endpoints)) _ i [] (rw f.listed h) ∙ regions-here i h

    attachment-at : (i : ℕ) → i < n → is_in (domain_of r) (get_or ats i none) ≡ (eqb (get_or attached i 0) 1 && eqb (get_or domains i 0) (domain_of r).0)
    attachment-at i h = ap (is_in (domain_of r)) (get_d-tab n (attachment_at d.state) i none h) ∙ in-domain (get_or attached i 0) (get_or domains i 0) (domain_of r).0

    owner_here : (i : ℕ) → i < n → get_or os i 0 ≡ get_or owners i 0
    owner_here i h = get_or-take n owners i 0 h

    -- an endpoint that is attached bars the record where it is of the guest and in the domain that the record names, and has a
    -- region that the record meets
    bars-found : (i : ℕ) → i < n → eqb (get_or attached i 0) 1 ≡ true → bars i r ≡ found (guest_of r) (domain_of r) q os ats rs i
    unfolding on_region
    bars-found i h e =
        rw (key-is (get_or owners i 0) (get_or domains i 0) r (narrow_at i h), owner_here i h, region-at i h, attachment-at i h, e)

    off : record_clear (config_of d.state) (read d) r ≡ true → (i : ℕ) → i < n → eqb (get_or attached i 0) 1 ≡ true → bars i r ≡ false
    unfolding off_regions on_region own part read config_of
    off c i h e = go (bars i r) refl
      where
        go : (b : Bool) → bars i r ≡ b → b ≡ false
        go true m =
            true-false (any? q (regions_in (domain_of r) (pick_by (guest_of r) os ats) (pick_by (guest_of r) os rs)))
            (regions-from (guest_of r) (domain_of r) q os ats rs i (rw length-attachments h) (omega (arith, length-attachments, length-owners)) as_many (sym (bars-found i h e) ∙ m))
            (not-true _ c)
        go false m = refl

    on : ((i : ℕ) → i < n → eqb (get_or attached i 0) 1 ≡ true → bars i r ≡ false) → record_clear (config_of d.state) (read d) r ≡ true
    unfolding off_regions on_region own part read config_of
    on c = ap not (go (any? q (regions_in (domain_of r) (pick_by (guest_of r) os ats) (pick_by (guest_of r) os rs))) refl)
      where
        here : (i : ℕ) → i < n → found (guest_of r) (domain_of r) q os ats rs i ≡ true → eqb (get_or attached i 0) 1 ≡ true
        here i h k =
            both_left (eqb (get_or attached i 0) 1) _
            (sym (attachment-at i h) ∙ both_right (eqb (get_or os i 0) (guest_of r)) _ (both_left (eqb (get_or os i 0) (guest_of r) && is_in (domain_of r) (get_or ats i none)) _ k))

        go : (b : Bool) → any? q (regions_in (domain_of r) (pick_by (guest_of r) os ats) (pick_by (guest_of r) os rs)) ≡ b → b ≡ false
        go true m =
            let f = regions-at (guest_of r) (domain_of r) q os ats rs as_many m in
            let h : f.0 < n = omega (arith, f.1, length-attachments) in
            let e = here f.0 h f.2 in
            true-false (bars f.0 r) (bars-found f.0 h e ∙ f.2) (c f.0 h e)
        go false m = refl

  -- ALL RECORDS

  clear-all : (l : List Mapping) → ((i : ℕ) → i < n → eqb (get_or attached i 0) 1 ≡ true → all? (λ r. not (bars i r)) l ≡ true)
      → all? (record_clear (config_of d.state) (read d)) l ≡ true
  clear-all [] h = refl
  clear-all (r ∷ l) h =
      both (record_clear (config_of d.state) (read d) r) _
      (on r (λ i k e. not-true _ (both_left (not (bars i r)) _ (h i k e))))
      (clear-all l (λ i k e. both_right (not (bars i r)) _ (h i k e)))

  by-endpoint : InOrder live → all? (record_clear (config_of d.state) (read d)) live ≡ below n (endpoint_clear live d.state)
  by-endpoint o =
      same_test (all? (record_clear (config_of d.state) (read d)) live) (below n (endpoint_clear live d.state))
      (λ c. below_all n _ (λ i h. clear i (eqb (get_or attached i 0) 1) refl (λ e. fails-all (bars i) live (all-imp (record_clear (config_of d.state) (read d)) (λ r. not (bars i r)) live (λ r k. rw (off r k i h e)) c))))
      (λ c. clear-all live (λ i h e. none_passes (bars i) live (met i e (below_at n (endpoint_clear live d.state) i c h))))
    where
      clear : (i : ℕ) (b : Bool) → eqb (get_or attached i 0) 1 ≡ b → (b ≡ true → any? (bars i) live ≡ false) → (not b || not (regions_met (key_at d.state i) live (held_regions d.state.regions i))) ≡ true
      clear i true e m = rw (regions-met (key_at d.state i) live (held_regions d.state.regions i) o, m refl)
      clear i false e m = refl

      met : (i : ℕ) → eqb (get_or attached i 0) 1 ≡ true → endpoint_clear live d.state i ≡ true → any? (bars i) live ≡ false
      met i e c = sym (regions-met (key_at d.state i) live (held_regions d.state.regions i) o) ∙ not-true _ (rw e at c)

  -- where the records are in order, the code's test is that of soundness
  pub reserved-are : InOrder live → regions_good d.state d.table ≡ every? (reserved_tests d)
  unfolding regions_good read
  reserved-are o =
      rw (le-leb n max_endpoints few)
      (ap (λ (b : Bool). every? (region_zeros d.state) && b) (sym (and-true (all? (record_clear (config_of d.state) (read d)) live) ∙ by-endpoint o)))
