-- A request's steps where all of them pass, as facts with names, and what its status settles.
use Prim.Native.Nat.{ℕ, ◌+◌, ◌-◌, ◌≤◌, ◌<◌}
use mathlib.Core.Path.{◌≡◌, refl, ap, ◌∙◌}
use mathlib.Core.Bool.{Bool, true, false, not, ◌&&◌}
use mathlib.Core.List.{List, [], ◌∷◌, ◌++◌}
use mathlib.Core.Option.{Option, some, none}
use native.Mathlib.Omega.{arith}
use lib.Dec.{ltb, eqb}
use lib.ListN.{length, get_or, length-append}
use borrow.Author.Tests.{eqb-true, ltb-false, leb-false, not-true, not-false}
use Rattle.laws.specs.Lists.{all?, any?, first_failing}
use Rattle.laws.proofs.Filters.{none_passes}
use Rattle.laws.proofs.Tests.{either_way, true-false, nor, Clear, cleared, clear-left, clear-right, failing-among}
use Rattle.rules.specs.declared.Endpoint.{Endpoint}
use Rattle.rules.specs.declared.Domain.{Domain}
use Rattle.rules.specs.declared.Mapping.{Mapping}
use Rattle.rules.specs.Table.{key_of, overlap}
use Rattle.rules.specs.State.{Attachment}
use Rattle.rules.specs.Guests.{Own, Part}
use Rattle.rules.specs.Requests.{OK, status_in}
use Rattle.rules.specs.Sound.{passes}
use Rattle.rules.specs.Handlers.{Steps, or_ok, status_of, settle, outside, is_in, domain_exists, listed, attachment_of, of_key, regions_of, regions_in, on_region, attach_steps, detach_steps, form_steps, record_steps, map_steps, unmap_steps}

-- STATUSES

-- a step whose status is not OK
abbrev pub nonzero : Bool × ℕ → Bool
nonzero s = not (eqb s.1 OK)

-- where the status is OK, every step passes
pub clear : (l : Steps) → all? nonzero l ≡ true → status_of l ≡ OK → Clear l
clear l n h = cleared l (go (first_failing l) refl h)
  where
    go : (v : Option ℕ) → first_failing l ≡ v → or_ok v ≡ OK → first_failing l ≡ none
    go none e z = e
    go (some s) e z = true-false (not (eqb s OK)) (failing-among (λ i. not (eqb i OK)) l s e n) (rw z)

-- no step fails exactly where the status is OK
pub status-passes : (l : Steps) → all? nonzero l ≡ true → eqb (status_of l) OK ≡ passes (first_failing l)
status-passes l n = go (first_failing l) refl
  where
    go : (v : Option ℕ) → first_failing l ≡ v → eqb (or_ok v) OK ≡ passes v
    go none e = refl
    go (some s) e = not-true (eqb s OK) (failing-among (λ i. not (eqb i OK)) l s e n)

-- what a request leaves, where its steps are clear
pub settle-keeps : (P : Part → Type 0) (l : Steps) (p q : Part) → all? nonzero l ≡ true → P p → (Clear l → P q) → P (settle (status_of l) p q).1
unfolding settle
settle-keeps P l p q n hp hq = either_way P (eqb (status_of l) OK) (λ e. hq (clear l n (eqb-true (status_of l) OK e))) (λ e. hp)

-- the status of a request is read off the last four bytes of its writable part
pub status-last : (b : List ℕ) (s : ℕ) → status_in (b ++ (s ∷ 0 ∷ 0 ∷ 0 ∷ [])) ≡ s
status-last b s = rw (length-append b (s ∷ 0 ∷ 0 ∷ 0 ∷ [])) (ap (λ (n : ℕ). get_or (b ++ (s ∷ 0 ∷ 0 ∷ 0 ∷ [])) n 0) (omega arith) ∙ at-end b)
  where
    at-end : (l : List ℕ) → get_or (l ++ (s ∷ 0 ∷ 0 ∷ 0 ∷ [])) (length l) 0 ≡ s
    at-end [] = refl
    at-end (x ∷ l) = at-end l

-- RANGES

pub outside_high : (a b x : ℕ) → outside a b x ≡ false → (a ≤ x) × (x ≤ b)
unfolding outside
outside_high a b x h = (ltb-false x a (nor (ltb x a) (ltb b x) h).0, ltb-false b x (nor (ltb x a) (ltb b x) h).1)

-- STEPS THAT PASS

-- no record of domain d overlaps a region of endpoint e
abbrev pub unbarred : Own → Endpoint → Domain → Mapping → Bool
unbarred o e d r = not (of_key (key_of o.guest d) r && on_region (regions_of e o.endpoints o.regions) r)

pub record Attaches (o : Own) (p : Part) (d : Domain) (e : Endpoint) : Type 0 where
  pub owned : listed e o.endpoints ≡ true
  pub within : outside o.domains.start o.domains.end d.0 ≡ false
  pub free : is_in d (attachment_of e o.endpoints p.attachments) ≡ false → all? (unbarred o e d) p.records ≡ true

pub attaches : (o : Own) (p : Part) (d : Domain) (e : Endpoint) (z : ℕ) → Clear (attach_steps o p d e z) → Attaches o p d e
attaches o p d e z c =
    record {
      owned = not-false _ c.1.0;
      within = c.1.1.0;
      free = λ h. none_passes (λ r. of_key (key_of o.guest d) r && on_region (regions_of e o.endpoints o.regions) r) p.records (rw h at c.1.1.1.0);
    }

pub record Detaches (o : Own) (p : Part) (d : Domain) (e : Endpoint) : Type 0 where
  pub owned : listed e o.endpoints ≡ true
  pub here : is_in d (attachment_of e o.endpoints p.attachments) ≡ true

pub detaches : (o : Own) (p : Part) (d : Domain) (e : Endpoint) (z : ℕ) → Clear (detach_steps o p d e z) → Detaches o p d e
detaches o p d e z c = record { owned = not-false _ c.1.0; here = not-false _ c.1.1.0 }

-- of what MAP's steps 2 to 6 ask, what other proofs use
pub record Formed (o : Own) (r : Mapping) : Type 0 where
  pub wide : r.start < r.end
  pub end-within : (o.input.start ≤ r.end) × (r.end ≤ o.input.end)
  pub phys-within : (o.first ≤ r.phys) × (r.phys ≤ o.last)
  pub phys-end-within : (o.first ≤ r.phys + r.end - r.start) × (r.phys + r.end - r.start ≤ o.last)

pub formed : (o : Own) (r : Mapping) → Clear (form_steps o r) → Formed o r
unfolding form_steps
formed o r c =
    let input = nor (outside o.input.start o.input.end r.start) _ c.1.1.1.0 in
    let window = nor _ _ c.1.1.1.1.0 in
    record {
      wide = leb-false r.end r.start c.1.0;
      end-within = outside_high _ _ _ input.1;
      phys-within = outside_high _ _ _ window.0;
      phys-end-within = outside_high _ _ _ window.1;
    }

-- its steps 1 to 6
pub record Recorded (o : Own) (l : List Attachment) (d : Domain) (r : Mapping) : Type 0 where
  pub there : domain_exists d l ≡ true
  pub form : Clear (form_steps o r)

pub recorded : (o : Own) (l : List Attachment) (d : Domain) (r : Mapping) → Clear (record_steps o l d r) → Recorded o l d r
recorded o l d r c = record { there = not-false _ c.0; form = c.1 }

-- all of its steps
pub record Maps (o : Own) (p : Part) (d : Domain) (r : Mapping) : Type 0 where
  pub early : Recorded o p.attachments d r
  pub free : any? (overlap r) p.records ≡ false
  pub off : on_region (regions_in d p.attachments o.regions) r ≡ false
  pub room : length p.records < o.share

pub maps : (o : Own) (p : Part) (d : Domain) (r : Mapping) → Clear (map_steps o p d r) → Maps o p d r
maps o p d r c =
    let late = clear-right (record_steps o p.attachments d r) _ c in
    record {
      early = recorded o p.attachments d r (clear-left (record_steps o p.attachments d r) _ c);
      free = late.0;
      off = late.1.0;
      room = leb-false o.share (length p.records) late.1.1.0;
    }

pub unmap-there : (o : Own) (p : Part) (d : Domain) (a b z : ℕ) → Clear (unmap_steps o p d a b z) → domain_exists d p.attachments ≡ true
unmap-there o p d a b z c = not-false _ c.0
