-- What soundness asks of the whole device, that every call keeps it, and that a call touches only its caller's part.
use Prim.Native.Nat.{ℕ, zero, suc, ◌<◌}
use mathlib.Core.Path.{◌≡◌, refl, sym, ap, ◌∙◌}
use mathlib.Core.Bool.{Bool, true, false, cond, not}
use mathlib.Core.List.{List, [], ◌∷◌}
use mathlib.Core.Option.{Option, some, none}
use native.Mathlib.Omega.{arith}
use lib.Dec.{ltb, eqb}
use lib.ListN.{length, replicate, length-set, length-replicate, get_or-replicate}
use lib.Seq.{get_or-set_same, get_or-set_other}
use borrow.Author.Tests.{ltb-true, eqb-true, eqb-false, eq-eqb, lt-ltb, not-false}
use Rattle.laws.specs.Lists.{all?, any?, pick_by, pairwise}
use Rattle.laws.proofs.Tests.{either_way, both, both_left, both_right, true-false, or_left, or_right}
use Rattle.laws.proofs.Filters.{all-imp}
use Rattle.laws.proofs.Owners.{pick-weave, pick-weave-other, length-weave, length-pick_by}
use Rattle.rules.specs.declared.Guest.{Guest}
use Rattle.rules.specs.declared.Endpoint.{Endpoint}
use Rattle.rules.specs.declared.Refusal.TheVariants.{NoSuchGuest, UnknownEndpoint}
use Rattle.rules.specs.Configuration.{Config, good}
use Rattle.rules.specs.Table.{guest_of, before, apart}
use Rattle.rules.specs.State.{Attachment, World, no_log, start}
use Rattle.rules.specs.Guests.{Part, own, part, replace}
use Rattle.rules.specs.Handlers.{listed}
use Rattle.rules.specs.Sound.{guest, in_range}
use Rattle.rules.specs.Device.{Call, of_guest, access_by, Reply, refused_with, rule, owner_of, caller, is, owns, numbered, work}
use Rattle.rules.proofs.Records.{mine, before-guest, apart-guests, records-back, records-other, all-with, pairwise-with}
use Rattle.rules.proofs.Groups.{Good, good-facts, Facts}
use Rattle.rules.proofs.Parts.{Named, rule-facts}

-- WHOSE CALL

pub same-guest : (h g : Guest) → eqb h.0 g.0 ≡ true → h ≡ g
same-guest h g e = ap (λ n. record { 0 = n }) (eqb-true h.0 g.0 e)

-- the caller of an access owns its endpoint, and is below the guest count
owner-listed : (e : Endpoint) (es os : List ℕ) (g : Guest) → owner_of e es os ≡ some g → listed e (pick_by g.0 os es) ≡ true
unfolding listed
owner-listed e [] os g h = absurd (let z : ◌≡◌ {A = ℕ} 0 1 = cc in omega arith)
owner-listed e (k ∷ es) [] g h = absurd (let z : ◌≡◌ {A = ℕ} 0 1 = cc in omega arith)
owner-listed e (k ∷ es) (o ∷ os) g h = go (eqb k e.0) refl h (eqb o g.0) refl (λ i. owner-listed e es os g i)
  where
    go : (b : Bool) → eqb k e.0 ≡ b → cond b (some (guest o)) (owner_of e es os) ≡ some g → (c : Bool) → eqb o g.0 ≡ c → (owner_of e es os ≡ some g → any? (eqb e.0) (pick_by g.0 os es) ≡ true)
        → any? (eqb e.0) (cond c (k ∷ pick_by g.0 os es) (pick_by g.0 os es)) ≡ true
    go true x h true f ih = or_left (eqb e.0 k) _ (eq-eqb e.0 k (sym (eqb-true k e.0 x)))
    go true x h false f ih = true-false (eqb o g.0) (eq-eqb o g.0 (let z : guest o ≡ g = cc in ap (λ y. y.0) z)) f
    go false x h true f ih = or_right (eqb e.0 k) _ (ih h)
    go false x h false f ih = ih h

owner-below : (e : Endpoint) (n : ℕ) (es os : List ℕ) (g : Guest) → all? (λ o. ltb o n) os ≡ true → owner_of e es os ≡ some g → g.0 < n
owner-below e n [] os g a h = absurd (let z : ◌≡◌ {A = ℕ} 0 1 = cc in omega arith)
owner-below e n (k ∷ es) [] g a h = absurd (let z : ◌≡◌ {A = ℕ} 0 1 = cc in omega arith)
owner-below e n (k ∷ es) (o ∷ os) g a h = go (eqb k e.0) h (λ i. owner-below e n es os g (both_right (ltb o n) _ a) i)
  where
    go : (b : Bool) → cond b (some (guest o)) (owner_of e es os) ≡ some g → (owner_of e es os ≡ some g → g.0 < n) → g.0 < n
    go true h ih = rw (let z : guest o ≡ g = cc in ap (λ y. y.0) (sym z)) (ltb-true o n (both_left (ltb o n) _ a))
    go false h ih = ih h

pub caller-below : (c : Config) (x : Call) (g : Guest) → Good c → numbered c x ≡ true → caller c x ≡ some g → g.0 < c.settings.guests
unfolding caller
caller-below c (of_guest h j) g i n e = rw (let z : h ≡ g = cc in ap (λ y. y.0) (sym z)) (ltb-true h.0 c.settings.guests n)
caller-below c (access_by a) g i n e = owner-below a.endpoint c.settings.guests c.endpoints c.owners g i.owners e

pub named : (c : Config) (x : Call) (g : Guest) → caller c x ≡ some g → Named (own c g) x
unfolding caller own
named c (of_guest h j) g e = tt
named c (access_by a) g e = owner-listed a.endpoint c.endpoints c.owners g e

-- a call of a guest below the guest count is not refused with 1
pub owned-numbered : (c : Config) (x : Call) (g : Guest) → g.0 < c.settings.guests → caller c x ≡ some g → numbered c x ≡ true
unfolding caller
owned-numbered c (of_guest h j) g l e = lt-ltb h.0 c.settings.guests (rw (let z : h ≡ g = cc in ap (λ y. y.0) z) l)
owned-numbered c (access_by a) g l e = refl

-- THE DEVICE WITHOUT ITS WORDS

unfoldable pub performed_world : Config → World → Option Guest → Call → Reply × World
performed_world c w none x = (refused_with UnknownEndpoint x, w)
performed_world c w (some g) x = work c g w x

unfoldable pub step_world : Config → World → Call → Reply × World
step_world c w x = cond (not (numbered c x)) (refused_with NoSuchGuest x, w) (performed_world c w (caller c x) x)

module _ (c : Config) where
  attachments-back : (g : Guest) (p : Part) (w : World) → length p.attachments ≡ length (part c g w).attachments → (part c g (replace c g p w)).attachments ≡ p.attachments
  unfolding part replace
  attachments-back g p w e = pick-weave g.0 c.owners w.attachments p.attachments e

  part-records-back : (g : Guest) (p : Part) (w : World) → all? (mine g) p.records ≡ true → (part c g (replace c g p w)).records ≡ p.records
  unfolding part replace
  part-records-back g p w m = records-back g p.records w.records m

  log-put-back : (g : Guest) (p : Part) (w : World) → g.0 < length w.logs → (part c g (replace c g p w)).log ≡ p.log
  unfolding part replace
  log-put-back g p w h = get_or-set_same w.logs g.0 p.log no_log h

  -- a part put back is taken out again
  pub part-back : (g : Guest) (p : Part) (w : World) → length p.attachments ≡ length (part c g w).attachments → all? (mine g) p.records ≡ true → g.0 < length w.logs → part c g (replace c g p w) ≡ p
  part-back g p w e m h = rw (attachments-back g p w e, part-records-back g p w m, log-put-back g p w h)

  attachments-other : (g h : Guest) (p : Part) (w : World) → (h.0 ≡ g.0 → ⊥) → (part c h (replace c g p w)).attachments ≡ (part c h w).attachments
  unfolding part replace
  attachments-other g h p w n = pick-weave-other g.0 h.0 c.owners w.attachments p.attachments n

  part-records-other : (g h : Guest) (p : Part) (w : World) → (h.0 ≡ g.0 → ⊥) → all? (mine g) p.records ≡ true → (part c h (replace c g p w)).records ≡ (part c h w).records
  unfolding part replace
  part-records-other g h p w n m = records-other g h p.records w.records n m

  log-other : (g h : Guest) (p : Part) (w : World) → (h.0 ≡ g.0 → ⊥) → (part c h (replace c g p w)).log ≡ (part c h w).log
  unfolding part replace
  log-other g h p w n = get_or-set_other w.logs g.0 h.0 p.log no_log n

  -- and leaves every other guest's part as it was
  pub part-other : (g h : Guest) (p : Part) (w : World) → (h.0 ≡ g.0 → ⊥) → all? (mine g) p.records ≡ true → part c h (replace c g p w) ≡ part c h w
  part-other g h p w n m = rw (attachments-other g h p w n, part-records-other g h p w n m, log-other g h p w n)

  -- a sound part's records are the guest's
  pub facts-mine : (g : Guest) (p : Part) → Facts (own c g) p → all? (mine g) p.records ≡ true
  unfolding own
  facts-mine g p f = f.own

  -- soundness, but for the words
  pub record Whole (w : World) : Type 0 where
    pub config : good c ≡ true
    pub attachments : length w.attachments ≡ length c.owners
    pub logs : length w.logs ≡ c.settings.guests
    pub guests : all? (λ r. ltb (guest_of r) c.settings.guests) w.records ≡ true
    pub order : pairwise before w.records ≡ true
    pub disjoint : pairwise apart w.records ≡ true
    pub parts : (g : Guest) → g.0 < c.settings.guests → Facts (own c g) (part c g w)

  pub replace-whole : (g : Guest) (p : Part) (w : World) → g.0 < c.settings.guests → Facts (own c g) p → Whole w → Whole (replace c g p w)
  replace-whole g p w l f h =
      unfold replace in
      record {
        config = h.config;
        attachments = length-weave g.0 c.owners w.attachments p.attachments ∙ h.attachments;
        logs = length-set w.logs g.0 p.log ∙ h.logs;
        guests = all-with (λ r. ltb (guest_of r) c.settings.guests) g p.records w.records (all-imp (mine g) _ p.records (λ r e. lt-ltb (guest_of r) _ (rw (eqb-true (guest_of r) g.0 e) l)) owned) h.guests;
        order = pairwise-with before before-guest g p.records w.records owned f.order h.order;
        disjoint = pairwise-with apart apart-guests g p.records w.records owned f.disjoint h.disjoint;
        parts = λ k m. go k m (eqb k.0 g.0) refl;
      }
    where
      owned : all? (mine g) p.records ≡ true
      owned = facts-mine g p f

      go : (k : Guest) → k.0 < c.settings.guests → (b : Bool) → eqb k.0 g.0 ≡ b → Facts (own c k) (part c k (replace c g p w))
      go k m true e = rw (same-guest k g e, part-back g p w (f.size ∙ sym (h.parts g l).size) owned (rw h.logs l)) f
      go k m false e = rw (part-other g k p w (eqb-false k.0 g.0 e) owned) (h.parts k m)

  -- the caller's rule keeps its part sound
  pub ruled : (w : World) (x : Call) (g : Guest) → Whole w → g.0 < c.settings.guests → caller c x ≡ some g → Facts (own c g) (rule (own c g) (part c g w) x).1
  ruled w x g h l e = rule-facts (own c g) (part c g w) x (named c x g e) (h.parts g l)

  pub step_keeps : (w : World) (x : Call) → Whole w → Whole (step_world c w x).1
  unfolding step_world performed_world work
  step_keeps w x h = either_way (λ (r : Reply × World). Whole r.1) (not (numbered c x)) (λ n. h) (λ n. go (caller c x) refl (not-false (numbered c x) n))
    where
      go : (m : Option Guest) → caller c x ≡ m → numbered c x ≡ true → Whole (performed_world c w m x).1
      go none e n = h
      go (some g) e n =
          let l = caller-below c x g (good-facts c h.config) n e in
          replace-whole g (rule (own c g) (part c g w) x).1 w l (ruled w x g h l e) h

  -- a call of another guest leaves g's part as it is
  pub step_other : (w : World) (x : Call) (g : Guest) → Whole w → owns c g x ≡ false → part c g (step_world c w x).1 ≡ part c g w
  unfolding step_world performed_world work owns
  step_other w x g h o = either_way (λ (r : Reply × World). part c g r.1 ≡ part c g w) (not (numbered c x)) (λ n. refl) (λ n. go (caller c x) refl o (not-false (numbered c x) n))
    where
      go : (m : Option Guest) → caller c x ≡ m → is g m ≡ false → numbered c x ≡ true → part c g (performed_world c w m x).1 ≡ part c g w
      go none e i n = refl
      go (some k) e i n =
          let l = caller-below c x k (good-facts c h.config) n e in
          part-other k g _ w (λ q. eqb-false k.0 g.0 i (sym q)) (facts-mine k _ (ruled w x k h l e))

  -- a call of g's own is g's rule on g's part
  pub step-mine : (w : World) (x : Call) (g : Guest) → Whole w → g.0 < c.settings.guests → owns c g x ≡ true
      → ((step_world c w x).0 ≡ (rule (own c g) (part c g w) x).0) × (part c g (step_world c w x).1 ≡ (rule (own c g) (part c g w) x).1)
  unfolding step_world performed_world work owns
  step-mine w x g h l o = go (caller c x) refl o
    where
      go : (m : Option Guest) → caller c x ≡ m → is g m ≡ true
          → ((cond (not (numbered c x)) (refused_with NoSuchGuest x, w) (performed_world c w m x)).0 ≡ (rule (own c g) (part c g w) x).0)
          × (part c g (cond (not (numbered c x)) (refused_with NoSuchGuest x, w) (performed_world c w m x)).1 ≡ (rule (own c g) (part c g w) x).1)
      go none e i = true-false false i refl
      go (some k) e i =
          let same = same-guest k g i in
          let mine : caller c x ≡ some g = e ∙ ap (λ y. some y) same in
          rw (same, owned-numbered c x g l mine)
          (refl, part-back g (rule (own c g) (part c g w) x).1 w ((ruled w x g h l mine).size ∙ sym (h.parts g l).size) (facts-mine g _ (ruled w x g h l mine)) (rw h.logs l))

  -- an accepted set-up's start
  all-unattached : (q : Attachment → Bool) (g n : ℕ) (os : List ℕ) → q none ≡ true → all? q (pick_by g os (replicate n none)) ≡ true
  all-unattached q g n [] h = refl
  all-unattached q g zero (o ∷ os) h = refl
  all-unattached q g (suc n) (o ∷ os) h = go (eqb o g) (all-unattached q g n os h)
    where
      go : (t : Bool) → all? q (pick_by g os (replicate n none)) ≡ true → all? q (cond t (none ∷ pick_by g os (replicate n none)) (pick_by g os (replicate n none))) ≡ true
      go true i = both (q none) (all? q (pick_by g os (replicate n none))) h i
      go false i = i

  pub start-whole : good c ≡ true → Whole (start c)
  unfolding start
  start-whole h =
      let i = good-facts c h in
      record {
        config = h;
        attachments = length-replicate (length c.endpoints) none ∙ i.sizes;
        logs = length-replicate c.settings.guests no_log;
        guests = refl;
        order = refl;
        disjoint = refl;
        parts = λ g l. unfold own part in record {
          narrow = i.narrow;
          size = length-pick_by g.0 c.owners (replicate (length c.endpoints) none) c.endpoints (length-replicate (length c.endpoints) none);
          attachments = all-unattached (in_range (own c g)) g.0 (length c.endpoints) c.owners (unfold in_range in refl);
          own = refl;
          records = refl;
          clear = refl;
          order = refl;
          disjoint = refl;
          share = omega arith;
          log = rw (get_or-replicate c.settings.guests g.0 no_log no_log l) (record { count = omega arith; lost = omega arith; faults = refl });
        };
      }
