-- Reserved regions on the state's words, against the rules on the guest's part.
use Prim.Native.Nat.{ℕ, suc, ◌+◌, ◌*◌, ◌%◌, ◌≤◌, ◌<◌}
use mathlib.Core.Path.{◌≡◌, refl, sym, ap, ◌∙◌}
use mathlib.Core.Bool.{Bool, true, false, cond, ◌&&◌}
use mathlib.Core.List.{List, [], ◌∷◌}
use mathlib.Core.Option.{some}
use native.Mathlib.Omega.{arith}
use lib.Dec.{leb, eqb}
use lib.ListN.{length, get_or, take}
use lib.Seq.{get_or-take}
use borrow.Author.Tests.{leb-true}
use Rattle.laws.specs.Lists.{all?, any?, tab, pick_by}
use Rattle.laws.proofs.Tests.{both, both_left, both_right, true-false, same_test}
use Rattle.laws.proofs.Tables.{length-tab, get_d-tab}
use Rattle.rules.specs.declared.Guest.{Guest}
use Rattle.rules.specs.declared.Endpoint.{Endpoint}
use Rattle.rules.specs.declared.Domain.{Domain}
use Rattle.rules.specs.declared.Mapping.{Mapping}
use Rattle.rules.specs.declared.Region.{Region}
use Rattle.rules.specs.Sizes.{max_endpoints, max_regions, endpoint_region_words}
use Rattle.rules.specs.Configuration.{Config, MSI, meets, region_count, regions_at}
use Rattle.rules.specs.State.{World, trimmed_regions, state_of}
use Rattle.rules.specs.Handlers.{regions_of, regions_in, on_region, properties_of}
use Rattle.rules.specs.Sound.{guest}
use Rattle.rules.specs.Device.{owner_of}
use Rattle.rules.proofs.Groups.{Good}
use Rattle.rules.proofs.Regions.{regions-agree, region-count}
use Rattle.rules.proofs.Writing.{kept}
use Rattle.wire_properties.specs.Properties.{property_put, properties_put}
use Rattle.state_regions.specs.Held.{held_regions}
use Rattle.state_regions.proofs.Regions.{held-is}
use Rattle.state_regions.proofs.InDomain.{regions-at, regions-from}
use Rattle.state_endpoints.specs.Search.{any_below, belongs, index_of}
use Rattle.refinement.specs.Flat as flat
use Rattle.refinement.proofs.Places.{head-owner}
use Rattle.refinement.proofs.Written.{any_at, any-from, places-size, small-place, listed-place, belongs-at}

-- THE REGIONS OF AN ENDPOINT

-- an endpoint of guest g: its regions among g's are those at its place
pub regions-of-at : (e : Endpoint) (g : Guest) (es os : List ℕ) (rs : List (List Region)) → length os ≡ length es → length rs ≡ length es → owner_of e es os ≡ some g
    → regions_of e (pick_by g.0 os es) (pick_by g.0 os rs) ≡ get_or rs (index_of e.0 es) []
regions-of-at e g [] os rs m n h = absurd (let z : ◌≡◌ {A = ℕ} 0 1 = cc in omega arith)
regions-of-at e g (k ∷ es) [] rs m n h = absurd (omega arith)
regions-of-at e g (k ∷ es) (o ∷ os) [] m n h = absurd (omega arith)
regions-of-at e g (k ∷ es) (o ∷ os) (q ∷ rs) m n h = go (eqb k e.0) refl h (eqb o g.0) refl (λ i. regions-of-at e g es os rs (omega arith) (omega arith) i)
  where
    go : (b : Bool) → eqb k e.0 ≡ b → cond b (some (guest o)) (owner_of e es os) ≡ some g → (c : Bool) → eqb o g.0 ≡ c
        → (owner_of e es os ≡ some g → regions_of e (pick_by g.0 os es) (pick_by g.0 os rs) ≡ get_or rs (index_of e.0 es) [])
        → regions_of e (cond c (k ∷ pick_by g.0 os es) (pick_by g.0 os es)) (cond c (q ∷ pick_by g.0 os rs) (pick_by g.0 os rs)) ≡ get_or (q ∷ rs) (cond b 0 (suc (index_of e.0 es))) []
    go true x h true y i = rw x
    go true x h false y i = true-false (eqb o g.0) (head-owner o g h) y
    go false x h true y i = rw x (i h)
    go false x h false y i = i h

-- what the words of a state hold for a listed endpoint is what its configuration's do
module _ (c : Config) (k : kept c ≡ c) (good-c : Good c) (w : World) where
  abbrev words : List ℕ
  words = trimmed_regions (length c.endpoints) c.regions

  words-kept : take (endpoint_region_words * length c.endpoints) words ≡ c.regions
  words-kept = unfold kept in ap (λ (x : Config). x.regions) k

  count-is : (i : ℕ) → i < length c.endpoints → region_count words i ≡ region_count c.regions i
  count-is i l =
      sym (get_or-take (endpoint_region_words * length c.endpoints) words (endpoint_region_words * i) 0 (omega arith))
      ∙ ap (λ (v : List ℕ). region_count v i) words-kept

  few : (i : ℕ) → i < length c.endpoints → region_count words i ≤ max_regions
  few i l = rw (count-is i l) (region-count c.regions i (good-c.regions i l))

  pub held-here : (i : ℕ) → i < length c.endpoints → held_regions (state_of c w).regions i ≡ regions_at c.regions i
  unfolding state_of
  held-here i l =
      held-is words i (omega (arith, good-c.few)) (few i l)
      ∙ sym (regions-agree (take (endpoint_region_words * length c.endpoints) words) words i (few i l) (λ n a b. get_or-take (endpoint_region_words * length c.endpoints) words (endpoint_region_words * i + n) 0 (omega arith)))
      ∙ ap (λ (v : List ℕ). regions_at v i) words-kept

-- THE REGIONS OF A DOMAIN

module _ (c : Config) (k : kept c ≡ c) (good-c : Good c) (w : World) (size : length w.attachments ≡ length c.owners) where
  abbrev all : List (List Region)
  all = tab (length c.endpoints) (regions_at c.regions)

  as_many : length w.attachments ≡ length all
  as_many = size ∙ sym good-c.sizes ∙ sym (length-tab (length c.endpoints) (regions_at c.regions))

  -- the regions at a place that an endpoint belongs at, as the words say it
  at_place : (i : ℕ) → i < length w.attachments → held_regions (state_of c w).regions i ≡ get_or all i []
  at_place i l =
      let below : i < length c.endpoints = omega (arith, l, size, good-c.sizes) in
      held-here c k good-c w i below ∙ sym (get_d-tab (length c.endpoints) (regions_at c.regions) i [] below)

  pub on-regions : (g : Guest) (dom : Domain) (r : Mapping)
      → flat.on_regions (state_of c w) g dom r ≡ on_region (regions_in dom (pick_by g.0 c.owners w.attachments) (pick_by g.0 c.owners all)) r
  unfolding flat.on_regions on_region
  on-regions g dom r = rw (places-size c good-c w size) (same_test _ _ down up)
    where
      flatly : ℕ → Bool
      flatly i = belongs (state_of c w).owners (state_of c w).attached (state_of c w).domains g dom i && any? (meets r.start r.end) (held_regions (state_of c w).regions i)

      down : any_below max_endpoints flatly ≡ true → any? (meets r.start r.end) (regions_in dom (pick_by g.0 c.owners w.attachments) (pick_by g.0 c.owners all)) ≡ true
      down x =
          let f = any_at max_endpoints flatly x in
          let i = f.0 in
          let there = rw (belongs-at c good-c w size g dom f.0 f.1) at (both_left (belongs (state_of c w).owners (state_of c w).attached (state_of c w).domains g dom f.0) _ f.2) in
          let l = listed-place c good-c w size g dom f.0 there in
          regions-from g.0 dom (meets r.start r.end) c.owners w.attachments all f.0 l (omega (arith, size)) as_many
          (both _ _ there (rw (at_place f.0 l) at (both_right (belongs (state_of c w).owners (state_of c w).attached (state_of c w).domains g dom f.0) _ f.2)))

      up : any? (meets r.start r.end) (regions_in dom (pick_by g.0 c.owners w.attachments) (pick_by g.0 c.owners all)) ≡ true → any_below max_endpoints flatly ≡ true
      up x =
          let f = regions-at g.0 dom (meets r.start r.end) c.owners w.attachments all as_many x in
          let small = small-place c good-c w size f.1 in
          any-from max_endpoints flatly f.0 small (rw (belongs-at c good-c w size g dom f.0 small, at_place f.0 f.1) f.2)

-- PROPERTIES

-- a subtype that set-up takes is one byte
pub properties-put : (l : List Region) → all? (λ r. leb r.subtype MSI) l ≡ true → properties_put l ≡ properties_of l
unfolding property_put
properties-put [] h = refl
properties-put (q ∷ l) h =
    let small = leb-true q.subtype MSI (both_left (leb q.subtype MSI) _ h) in
    let byte : q.subtype % 256 ≡ q.subtype = omega (arith, small) in
    rw (byte, properties-put l (both_right (leb q.subtype MSI) _ h))
