-- An access lands in its owner's window, and goes through exactly when a live record permits it.
use Prim.Native.Nat.{ℕ, zero, suc, ◌+◌, ◌-◌, ◌/◌, ◌≤◌, ◌<◌}
use mathlib.Core.Path.{◌≡◌, refl, sym, ap, ◌∙◌}
use mathlib.Core.Bool.{Bool, true, false, cond, ◌&&◌}
use mathlib.Core.List.{List, [], ◌∷◌}
use mathlib.Core.Option.{Option, some, none}
use native.Mathlib.Omega.{arith}
use lib.Dec.{leb, eqb}
use lib.ListN.{length, get_or}
use borrow.Author.Tests.{leb-true, eqb-true, eq-eqb, le-leb, not-true}
use Rattle.laws.specs.Lists.{all?, find, pairwise}
use Rattle.laws.proofs.Tests.{both_left, both_right, true-false, Clear}
use Rattle.laws.proofs.Filters.{found, found-passes, find-keep}
use Rattle.laws.proofs.Tables.{all-at}
use Rattle.rules.specs.declared.Guest.{Guest}
use Rattle.rules.specs.declared.Access.{Access}
use Rattle.rules.specs.declared.Domain.{Domain}
use Rattle.rules.specs.declared.Mapping.{Mapping}
use Rattle.rules.specs.declared.Answer.{Answer}
use Rattle.rules.specs.declared.Answer.TheVariants.{Through, Blocked}
use Rattle.rules.specs.declared.Cause.TheVariants.{Unattached, Unmapped}
use Rattle.rules.specs.Sizes.{domain_span}
use Rattle.rules.specs.Answers.{number, address_of}
use Rattle.rules.specs.Configuration.{Config}
use Rattle.rules.specs.Table.{key_of, mapping, overlap, guest_of, apart}
use Rattle.rules.specs.State.{Attachment, Device, config_of, read}
use Rattle.rules.specs.Guests.{Own, Part, own, part}
use Rattle.rules.specs.Handlers.{outside, attachment_of, of_key, form_steps}
use Rattle.rules.specs.Access.{has_flag, permits, blocked, translated, find_mapping, decided, access}
use Rattle.rules.specs.Sound.{sound, record_good, in_range}
use Rattle.rules.specs.Device.{access_by, Reply, rule, caller, owns, step}
use Rattle.rules.specs.Claims.{Permitting, attached_to, GoesTo}
use Rattle.rules.proofs.Records.{key-guest}
use Rattle.rules.proofs.Parts.{record-form}
use Rattle.rules.proofs.Chains.{outside_high, formed}
use Rattle.rules.proofs.Groups.{good-facts, Facts}
use Rattle.rules.proofs.Worlds.{Whole, caller-below, step-mine}
use Rattle.rules.proofs.Reading.{sound-whole}
use Rattle.rules.proofs.Steps.{reply-of}

-- PERMITTED

pub record Covers (named : ℕ) (a : Access) (r : Mapping) : Type 0 where
  pub key : r.key ≡ named
  pub from : r.start ≤ a.address
  pub to : a.address ≤ r.end
  pub flag : has_flag a.kind r.flags ≡ true

pub permits-covers : (key : ℕ) (a : Access) (r : Mapping) → permits key a r ≡ true → Covers key a r
unfolding permits of_key
permits-covers key a r h =
    let t = both_right (eqb r.key key) _ h in
    let span = both_left (leb r.start a.address && leb a.address r.end) _ t in
    record {
      key = eqb-true r.key key (both_left (eqb r.key key) _ h);
      from = leb-true r.start a.address (both_left (leb r.start a.address) _ span);
      to = leb-true a.address r.end (both_right (leb r.start a.address) _ span);
      flag = both_right (leb r.start a.address && leb a.address r.end) _ t;
    }

pub covers-permits : (key : ℕ) (a : Access) (r : Mapping) → Covers key a r → permits key a r ≡ true
unfolding permits of_key
covers-permits key a r c = rw (eq-eqb r.key key c.key, le-leb r.start a.address c.from, le-leb a.address r.end c.to, c.flag)

-- two records that permit one access overlap
permits-overlap : (key : ℕ) (x : Access) (r s : Mapping) → permits key x r ≡ true → permits key x s ≡ true → overlap r s ≡ true
unfolding overlap
permits-overlap key x r s h i =
    let a = permits-covers key x r h in
    let b = permits-covers key x s i in
    rw (eq-eqb r.key s.key (a.key ∙ sym b.key), le-leb r.start s.end (omega (arith, a.from, b.to)), le-leb s.start r.end (omega (arith, b.from, a.to)))

-- so among records none of which overlap, the one that permits it is found
only_one : (key : ℕ) (x : Access) (z : Mapping) (l : List Mapping) (i : ℕ) → pairwise apart l ≡ true → i < length l → permits key x (get_or l i z) ≡ true → find (permits key x) l ≡ some (get_or l i z)
only_one key x z [] i a h p = absurd (omega arith)
only_one key x z (r ∷ l) i a h p = go i h p (permits key x r) refl (λ j m q. only_one key x z l j (both_right (all? (apart r) l) _ a) m q)
  where
    go : (i : ℕ) → i < length (r ∷ l) → permits key x (get_or (r ∷ l) i z) ≡ true → (b : Bool) → permits key x r ≡ b
        → ((j : ℕ) → j < length l → permits key x (get_or l j z) ≡ true → find (permits key x) l ≡ some (get_or l j z))
        → cond b (some r) (find (permits key x) l) ≡ some (get_or (r ∷ l) i z)
    go zero h p true e ih = refl
    go zero h p false e ih = true-false (permits key x r) p e
    go (suc j) h p true e ih =
        true-false (overlap r (get_or l j z)) (permits-overlap key x r (get_or l j z) e p)
        (let q = all-at (apart r) l j z (both_left (all? (apart r) l) _ a) (omega arith) in not-true (overlap r (get_or l j z)) q)
    go (suc j) h p false e ih = ih j (omega arith) p

-- what is found stands at some place
found-place : (q : Mapping → Bool) (z : Mapping) (l : List Mapping) (r : Mapping) → find q l ≡ some r → (i : ℕ) × (i < length l) × (get_or l i z ≡ r)
found-place q z [] r e = absurd (let n : ◌≡◌ {A = ℕ} 0 1 = cc in omega arith)
found-place q z (x ∷ l) r e = go (q x) e (λ k. found-place q z l r k)
  where
    go : (b : Bool) → cond b (some x) (find q l) ≡ some r → (find q l ≡ some r → (i : ℕ) × (i < length l) × (get_or l i z ≡ r)) → (i : ℕ) × (i < length (x ∷ l)) × (get_or (x ∷ l) i z ≡ r)
    go true e f = (0, omega arith, cc)
    go false e f = let p = f e in (suc p.0, omega (arith, p.1), p.2)

-- THE WINDOW

lands : (o : Own) (key : ℕ) (x : Access) (r : Mapping) → Clear (form_steps o r) → permits key x r ≡ true → (o.first ≤ x.address - r.start + r.phys) × (x.address - r.start + r.phys ≤ o.last)
lands o key x r c p =
    let v = permits-covers key x r p in
    let f = formed o r c in
    (omega (arith, f.phys-within, f.phys-end-within, v.from, v.to), omega (arith, f.phys-within, f.phys-end-within, v.from, v.to))

pub access-lands : (o : Own) (p : Part) (x : Access) → Facts o p → number (access o p x).0 ≡ 0 → (o.first ≤ address_of (access o p x).0) × (address_of (access o p x).0 ≤ o.last)
unfolding access
access-lands o p x f = go (attachment_of x.endpoint o.endpoints p.attachments)
  where
    Lands : Answer → Type 0
    Lands a = number a ≡ 0 → (o.first ≤ address_of a) × (address_of a ≤ o.last)

    hit : (d : Domain) (m : Option Mapping) → find_mapping (key_of o.guest d) x p.records ≡ m → Lands (translated x p m).0
    hit d none i = unfold translated blocked in (λ n. absurd (omega arith))
    hit d (some r) i = unfold translated in (λ n. lands o (key_of o.guest d) x r (record-form o p.attachments r q.1) q.0)
      where
        q : (permits (key_of o.guest d) x r ≡ true) × (record_good o p.attachments r ≡ true)
        q = found (permits (key_of o.guest d) x) (record_good o p.attachments) p.records r (unfold find_mapping in i) f.records

    go : (a : Attachment) → Lands (decided o p x a).0
    go none = unfold decided blocked in (λ n. absurd (omega arith))
    go (some d) = unfold decided in hit d (find_mapping (key_of o.guest d) x p.records) refl

-- EXACTLY WHEN

module _ (d : Device) (s : sound d ≡ true) (x : Access) (g : Guest) (mine : caller (config_of d.state) (access_by x) ≡ some g) where
  abbrev c : Config
  c = config_of d.state

  whole : Whole c (read d)
  whole = sound-whole d s

  below-count : g.0 < c.settings.guests
  below-count = caller-below c (access_by x) g (good-facts c whole.config) refl mine

  facts : Facts (own c g) (part c g (read d))
  facts = whole.parts g below-count

  -- the device's answer is the guest's rule on its own part
  pub answered : (step d (access_by x)).0.answer ≡ (decided (own c g) (part c g (read d)) x (attached_to d g x.endpoint)).0
  answered = ap (λ (r : Reply). r.answer) (reply-of d (access_by x) s ∙ (step-mine c (read d) (access_by x) g whole below-count (unfold owns in rw mine (eq-eqb g.0 g.0 refl))).0) ∙ unfold rule access in refl

  -- a domain that the endpoint is attached to has a number of 32 bits
  in-one-of : (l : List Attachment) (es : List ℕ) (dom : Domain) → attachment_of x.endpoint es l ≡ some dom → all? (in_range (own c g)) l ≡ true → in_range (own c g) (some dom) ≡ true
  in-one-of l [] dom i a = absurd (let z : ◌≡◌ {A = ℕ} 0 1 = cc in omega arith)
  in-one-of [] (n ∷ es) dom i a = absurd (let z : ◌≡◌ {A = ℕ} 0 1 = cc in omega arith)
  in-one-of (b ∷ l) (n ∷ es) dom i a = go (eqb n x.endpoint.0) i (λ j. in-one-of l es dom j (both_right (in_range (own c g) b) _ a))
    where
      go : (t : Bool) → cond t b (attachment_of x.endpoint es l) ≡ some dom → (attachment_of x.endpoint es l ≡ some dom → in_range (own c g) (some dom) ≡ true) → in_range (own c g) (some dom) ≡ true
      go true i f = rw (sym i) (both_left (in_range (own c g) b) _ a)
      go false i f = f i

  within : (dom : Domain) → in_range (own c g) (some dom) ≡ true → outside (own c g).domains.start (own c g).domains.end dom.0 ≡ false
  unfolding in_range
  within dom i = not-true _ i

  small : (dom : Domain) → attached_to d g x.endpoint ≡ some dom → dom.0 < domain_span
  small dom i = omega (arith, outside_high _ _ _ (within dom (in-one-of (part c g (read d)).attachments (own c g).endpoints dom i facts.attachments)), facts.narrow)

  -- the guest's records are found among all
  pub looked-up : (dom : Domain) → attached_to d g x.endpoint ≡ some dom → find_mapping (key_of (own c g).guest dom) x (part c g (read d)).records ≡ find (permits (key_of g dom) x) (read d).records
  unfolding find_mapping part own
  looked-up dom i = find-keep (λ r. eqb (guest_of r) g.0) (permits (key_of g dom) x) (read d).records (λ r p. eq-eqb (guest_of r) g.0 (ap (λ n. n / domain_span) (permits-covers (key_of g dom) x r p).key ∙ key-guest g.0 dom.0 (small dom i)))

  pub only-when : (to : ℕ) → GoesTo d x to → (domain : Domain) × (i : ℕ) × (r : Mapping) × (attached_to d g x.endpoint ≡ some domain) × Permitting d g domain x i r × (to ≡ x.address - r.start + r.phys)
  only-when to h = go (attached_to d g x.endpoint) refl (sym answered ∙ h)
    where
      Found : Type 0
      Found = (domain : Domain) × (i : ℕ) × (r : Mapping) × (attached_to d g x.endpoint ≡ some domain) × Permitting d g domain x i r × (to ≡ x.address - r.start + r.phys)

      hit : (dom : Domain) → attached_to d g x.endpoint ≡ some dom → (m : Option Mapping) → find (permits (key_of g dom) x) (read d).records ≡ m → (translated x (part c g (read d)) m).0 ≡ Through to → Found
      hit dom a none f t = unfold translated blocked in absurd (let z : number (Blocked Unmapped) ≡ number (Through to) = ap number t in omega arith)
      hit dom a (some r) f t =
          let place = found-place (permits (key_of g dom) x) (mapping 0 0 0 0 0) (read d).records r f in
          let v = permits-covers (key_of g dom) x r (found-passes (permits (key_of g dom) x) (read d).records r f) in
          (dom, place.0, r, a, record { live = place.1; there = place.2; key = v.key; from = v.from; to = v.to; flag = v.flag }, goes t)
        where
          goes : (translated x (part c g (read d)) (some r)).0 ≡ Through to → to ≡ x.address - r.start + r.phys
          goes t = unfold translated in sym (ap address_of t)

      go : (a : Attachment) → attached_to d g x.endpoint ≡ a → (decided (own c g) (part c g (read d)) x a).0 ≡ Through to → Found
      go none a t = unfold decided blocked in absurd (let z : number (Blocked Unattached) ≡ number (Through to) = ap number t in omega arith)
      go (some dom) a t = hit dom a (find (permits (key_of g dom) x) (read d).records) refl (unfold decided in (rw (looked-up dom a) at t))

  pub whenever : (dom : Domain) → attached_to d g x.endpoint ≡ some dom → (i : ℕ) (r : Mapping) → Permitting d g dom x i r → GoesTo d x (x.address - r.start + r.phys)
  whenever dom a i r p =
      answered
      ∙ ap (λ (m : Attachment). (decided (own c g) (part c g (read d)) x m).0) a
      ∙ unfold decided in (rw (looked-up dom a, only_one (key_of g dom) x (mapping 0 0 0 0 0) (read d).records i whole.disjoint p.live here, p.there) (unfold translated in refl))
    where
      here : permits (key_of g dom) x (get_or (read d).records i (mapping 0 0 0 0 0)) ≡ true
      here = rw p.there (covers-permits (key_of g dom) x r (record { key = p.key; from = p.from; to = p.to; flag = p.flag }))
