-- What soundness asks of one guest's part, the guest's rules keep.
use Prim.Native.Nat.{ℕ, ◌+◌, ◌/◌, ◌<◌}
use mathlib.Core.Path.{◌≡◌, refl, sym, ap, ◌∙◌}
use mathlib.Core.Bool.{Bool, true, false, cond, not, ◌&&◌, ◌||◌}
use mathlib.Core.List.{List, [], ◌∷◌}
use mathlib.Core.Option.{Option, some, none}
use native.Mathlib.Nat.{le_trans}
use native.Mathlib.Omega.{arith}
use lib.Dec.{ltb, eqb}
use lib.ListN.{length, length-append, length-drop, length-replicate}
use borrow.Author.Tests.{ltb-true, eqb-true, eq-eqb, lt-ltb, not-true}
use Rattle.laws.specs.Lists.{all?, any?, first_failing}
use Rattle.laws.proofs.Tests.{either_way, both, both_left, both_right, true-false, and-not, eqb-sym, Clear, cleared, passed}
use Rattle.laws.proofs.Filters.{all-imp, all_append, all_drop, all_keep, none_passes, length-keep, pairwise-keep}
use Rattle.rules.specs.declared.Endpoint.{Endpoint}
use Rattle.rules.specs.declared.Domain.{Domain}
use Rattle.rules.specs.declared.Mapping.{Mapping}
use Rattle.rules.specs.declared.Fault.{Fault}
use Rattle.rules.specs.declared.Access.{Access}
use Rattle.rules.specs.declared.Refusal.{Refusal}
use Rattle.rules.specs.declared.Cause.{Cause}
use Rattle.rules.specs.declared.Cause.TheVariants.{Unattached, Unmapped}
use Rattle.rules.specs.Sizes.{domain_span, max_faults, max_lost}
use Rattle.rules.specs.Table.{key_of, guest_of, domain_of, before, overlap, apart, insert_mapping}
use Rattle.rules.specs.Configuration.{meets}
use Rattle.rules.specs.State.{Attachment, Log}
use Rattle.rules.specs.Guests.{Own, Part, with_records, with_log}
use Rattle.rules.specs.Requests.{request_refusals, type_of, ATTACH, DETACH, MAP, domain_field, endpoint_field, attach_reserved, virt_start, virt_end, unmap_reserved, UNMAP, PROBE}
use Rattle.rules.specs.Handlers.{outside, is_in, domain_exists, listed, attachment_of, attached_as, of_key, regions_of, on_region, without, leave, enter, move_from, attached, attach_steps, handle_attach, detach_steps, handle_detach, form_steps, record_steps, map_steps, handle_map, unmap_steps, handle_unmap, asked_for, handle}
use Rattle.rules.specs.Access.{logged, reason_of, fault_of, blocked, translated, find_mapping, decided, access, after_reset, fetchable, fetched_from}
use Rattle.rules.specs.Sound.{passes, fault_good, record_good, off_regions, in_range}
use Rattle.rules.specs.Device.{Job, request, reset, fetch, Call, of_guest, access_by, requested, job_rule, rule}
use Rattle.rules.proofs.Records.{key-guest, key-domain, key_back, wide, mine, all_insert, length-insert, insert-ordered, insert-apart}
use Rattle.rules.proofs.Groups.{LogFacts, Facts}
use Rattle.rules.proofs.Chains.{settle-keeps, outside_high, unbarred, attaches, detaches, formed, recorded, Maps, maps}
use Rattle.rules.proofs.Attachments.{length-attached_as, all-attached_as, exists-attached_as, regions-attached_as, detached, in_one, all_none}

-- LOGS

pub log-logged : (o : Own) (f : Fault) (l : Log) → fault_good o f ≡ true → LogFacts o l → LogFacts o (logged f l)
unfolding logged
log-logged o f l hf h =
    either_way (LogFacts o) (ltb (length l.faults) max_faults)
    (λ r. record { count = simp length-append (omega (arith, ltb-true)); lost = h.lost; faults = all_append (fault_good o) l.faults (f ∷ []) h.faults (rw hf) })
    (λ r. either_way (λ (n : ℕ). LogFacts o (record { faults = l.faults; lost = n })) (ltb l.lost max_lost)
    (λ s. record { count = h.count; lost = omega (arith, ltb-true); faults = h.faults })
    (λ s. h))

pub log-fetched : (o : Own) (n : ℕ) (l : Log) → LogFacts o l → LogFacts o (fetched_from n l)
unfolding fetched_from
log-fetched o n l h = record { count = simp length-drop (omega (arith, h.count)); lost = h.lost; faults = all_drop (fault_good o) n l.faults h.faults }

-- STEPS

pub passes_none : {A : Type 0} (m : Option A) → passes m ≡ true → m ≡ none
passes_none none h = refl
passes_none (some a) h = absurd (let z : ◌≡◌ {A = ℕ} 0 1 = cc in omega arith)

-- RECORDS

pub record-exists : (o : Own) (l : List Attachment) (r : Mapping) → record_good o l r ≡ true → domain_exists (domain_of r) l ≡ true
unfolding record_good
record-exists o l r h = (recorded o l (domain_of r) r (cleared (record_steps o l (domain_of r) r) (passes_none _ h))).there

pub record-form : (o : Own) (l : List Attachment) (r : Mapping) → record_good o l r ≡ true → Clear (form_steps o r)
unfolding record_good
record-form o l r h = (recorded o l (domain_of r) r (cleared (record_steps o l (domain_of r) r) (passes_none _ h))).form

pub record-ok : (o : Own) (l : List Attachment) (r : Mapping) → domain_exists (domain_of r) l ≡ true → Clear (form_steps o r) → record_good o l r ≡ true
unfolding record_good
record-ok o l r h f = rw (passed (record_steps o l (domain_of r) r) (rw h, f))

pub form-wide : (o : Own) (r : Mapping) → Clear (form_steps o r) → wide r ≡ true
unfolding wide
form-wide o r c = lt-ltb r.start r.end (formed o r c).wide

pub record-wide : (o : Own) (l : List Attachment) (r : Mapping) → record_good o l r ≡ true → wide r ≡ true
record-wide o l r g = form-wide o r (record-form o l r g)

-- DOMAINS

pub in-range : (o : Own) (d : Domain) (l : List Attachment) → domain_exists d l ≡ true → all? (in_range o) l ≡ true → outside o.domains.start o.domains.end d.0 ≡ false
unfolding domain_exists
in-range o d [] h a = true-false true refl (sym h)
in-range o d (b ∷ l) h a = go (is_in d b) refl h (λ k. in-range o d l k (both_right (in_range o b) (all? (in_range o) l) a))
  where
    at : (b : Attachment) → is_in d b ≡ true → in_range o b ≡ true → outside o.domains.start o.domains.end d.0 ≡ false
    at none e k = unfold is_in in true-false true refl (sym e)
    at (some c) e k = unfold is_in in_range in (rw (sym (eqb-true c.0 d.0 e)) (not-true _ k))

    go : (t : Bool) → is_in d b ≡ t → (t || any? (is_in d) l) ≡ true → (any? (is_in d) l ≡ true → outside o.domains.start o.domains.end d.0 ≡ false) → outside o.domains.start o.domains.end d.0 ≡ false
    go true e h i = at b e (both_left (in_range o b) (all? (in_range o) l) a)
    go false e h i = i h

-- the record of domain d has the key of d
key-of : (o : Own) (d : Domain) (r : Mapping) → mine o.guest r ≡ true → eqb (domain_of r).0 d.0 ≡ true → r.key ≡ key_of o.guest d
key-of o d r m e = sym (key_back r.key) ∙ rw (eqb-true (guest_of r) o.guest.0 m, eqb-true (domain_of r).0 d.0 e)

-- a record of the key is the guest's, and of the domain
pub key-mine : (o : Own) (d : Domain) (r : Mapping) → d.0 < domain_span → r.key ≡ key_of o.guest d → mine o.guest r ≡ true
key-mine o d r h e = eq-eqb (guest_of r) o.guest.0 (ap (λ k. k / domain_span) e ∙ key-guest o.guest.0 d.0 h)

pub key-of-domain : (o : Own) (d : Domain) (r : Mapping) → d.0 < domain_span → r.key ≡ key_of o.guest d → domain_of r ≡ d
key-of-domain o d r h e = rw (e, key-domain o.guest.0 d.0 h)

-- LEAVING AND ENTERING A DOMAIN

without-keeps : (o : Own) (p : Part) (q : Mapping → Bool) → Facts o p → Facts o (with_records (without q p.records) p)
unfolding without
without-keeps o p q f =
    record {
      narrow = f.narrow;
      size = f.size;
      attachments = f.attachments;
      own = all_keep (mine o.guest) (λ r. not (q r)) (mine o.guest) p.records (λ x e g. g) f.own;
      records = all_keep (record_good o p.attachments) (λ r. not (q r)) (record_good o p.attachments) p.records (λ x e g. g) f.records;
      clear = all_keep (off_regions o p.attachments) (λ r. not (q r)) (off_regions o p.attachments) p.records (λ x e g. g) f.clear;
      order = pairwise-keep before (λ r. not (q r)) p.records f.order;
      disjoint = pairwise-keep apart (λ r. not (q r)) p.records f.disjoint;
      share = le_trans (length-keep (λ r. not (q r)) p.records) f.share;
      log = f.log;
    }

-- other attachments under which every record is still ok
reattached : (o : Own) (p : Part) (l : List Attachment) → length l ≡ length p.attachments → all? (in_range o) l ≡ true → all? (record_good o l) p.records ≡ true → all? (off_regions o l) p.records ≡ true → Facts o p
    → Facts o (record { attachments = l; records = p.records; log = p.log })
reattached o p l n a h c f =
    record { narrow = f.narrow; size = n ∙ f.size; attachments = a; own = f.own; records = h; clear = c; order = f.order; disjoint = f.disjoint; share = f.share; log = f.log }

-- a record that overlaps no region of its domain's endpoints overlaps none when endpoint e is attached as b, where b is another
-- domain or e's regions are not overlapped either
reattached-clear : (o : Own) (l : List Attachment) (e : Endpoint) (b : Attachment) (r : Mapping) → off_regions o l r ≡ true → (is_in (domain_of r) b ≡ true → on_region (regions_of e o.endpoints o.regions) r ≡ false)
    → off_regions o (attached_as e b o.endpoints l) r ≡ true
unfolding off_regions on_region
reattached-clear o l e b r h f = ap not (regions-attached_as (meets r.start r.end) (domain_of r) e b o.endpoints l o.regions (not-true _ h) f)

pub leave-facts : (o : Own) (p : Part) (e : Endpoint) (d : Domain) → is_in d (attachment_of e o.endpoints p.attachments) ≡ true → Facts o p → Facts o (leave o e d p)
unfolding leave
leave-facts o p e d h f =
    reattached o (with_records (without gone p.records) p) new (length-attached_as e none o.endpoints p.attachments)
    (all-attached_as (in_range o) e none o.endpoints p.attachments (unfold in_range in refl) f.attachments)
    (unfold without in all_keep both_ok (λ r. not (gone r)) (record_good o new) p.records (λ r k g. still r k (both_left (mine o.guest r) _ g) (both_right (mine o.guest r) _ g)) (all_both p.records f.own f.records))
    (all-imp (off_regions o p.attachments) (off_regions o new) (without gone p.records) (λ r c. still-clear r c) (without-keeps o p gone f).clear)
    (without-keeps o p gone f)
  where
    new : List Attachment
    new = attached_as e none o.endpoints p.attachments

    gone : Mapping → Bool
    gone r = not (domain_exists d new) && of_key (key_of o.guest d) r

    both_ok : Mapping → Bool
    both_ok r = mine o.guest r && record_good o p.attachments r

    all_both : (l : List Mapping) → all? (mine o.guest) l ≡ true → all? (record_good o p.attachments) l ≡ true → all? both_ok l ≡ true
    all_both [] a b = refl
    all_both (r ∷ l) a b =
        both (both_ok r) (all? both_ok l)
        (both (mine o.guest r) _ (both_left (mine o.guest r) _ a) (both_left (record_good o p.attachments r) _ b))
        (all_both l (both_right (mine o.guest r) _ a) (both_right (record_good o p.attachments r) _ b))

    still-clear : (r : Mapping) → off_regions o p.attachments r ≡ true → off_regions o new r ≡ true
    still-clear r c = reattached-clear o p.attachments e none r c (λ i. unfold is_in in true-false true refl (sym i))

    still : (r : Mapping) → not (gone r) ≡ true → mine o.guest r ≡ true → record_good o p.attachments r ≡ true → record_good o new r ≡ true
    still r k m g = record-ok o new r (go (eqb (domain_of r).0 d.0) refl) (record-form o p.attachments r g)
      where
        here : (b : Bool) → domain_exists d new ≡ b → not (not b && of_key (key_of o.guest d) r) ≡ true → of_key (key_of o.guest d) r ≡ true → domain_exists d new ≡ true
        here true x k q = x
        here false x k q = true-false true refl (sym (rw q at k))

        go : (b : Bool) → eqb (domain_of r).0 d.0 ≡ b → domain_exists (domain_of r) new ≡ true
        go true x =
            let same : domain_of r ≡ d = ap (λ n. record { 0 = n }) (eqb-true (domain_of r).0 d.0 x) in
            rw same (here (domain_exists d new) refl k (unfold of_key in eq-eqb r.key (key_of o.guest d) (key-of o d r m x)))
        go false x = exists-attached_as (domain_of r) e none o.endpoints p.attachments (in_one d (domain_of r) _ h x) (record-exists o p.attachments r g)

pub enter-facts : (o : Own) (p : Part) (e : Endpoint) (d : Domain) → ((c : Domain) → is_in c (attachment_of e o.endpoints p.attachments) ≡ false)
    → outside o.domains.start o.domains.end d.0 ≡ false → all? (unbarred o e d) p.records ≡ true → Facts o p → Facts o (enter o e d p)
unfolding enter
enter-facts o p e d h r u f =
    reattached o p (attached_as e (some d) o.endpoints p.attachments) (length-attached_as e (some d) o.endpoints p.attachments)
    (all-attached_as (in_range o) e (some d) o.endpoints p.attachments (unfold in_range in rw r) f.attachments)
    (all-imp (record_good o p.attachments) (record_good o (attached_as e (some d) o.endpoints p.attachments)) p.records
    (λ x g. record-ok o _ x (exists-attached_as (domain_of x) e (some d) o.endpoints p.attachments (h (domain_of x)) (record-exists o p.attachments x g)) (record-form o p.attachments x g))
    f.records)
    (all_three p.records f.own f.clear u)
    f
  where
    -- a record of domain d has its key, so that it does not overlap a region of e
    off : (x : Mapping) → mine o.guest x ≡ true → unbarred o e d x ≡ true → is_in (domain_of x) (some d) ≡ true → on_region (regions_of e o.endpoints o.regions) x ≡ false
    off x m b i = and-not (of_key (key_of o.guest d) x) _ (not-true _ b) (unfold of_key in eq-eqb x.key (key_of o.guest d) (key-of o d x m (eqb-sym (domain_of x).0 d.0 ∙ (unfold is_in in i))))

    all_three : (l : List Mapping) → all? (mine o.guest) l ≡ true → all? (off_regions o p.attachments) l ≡ true → all? (unbarred o e d) l ≡ true → all? (off_regions o (attached_as e (some d) o.endpoints p.attachments)) l ≡ true
    all_three [] a b c = refl
    all_three (x ∷ l) a b c =
        both (off_regions o (attached_as e (some d) o.endpoints p.attachments) x) (all? (off_regions o (attached_as e (some d) o.endpoints p.attachments)) l)
        (reattached-clear o p.attachments e (some d) x (both_left (off_regions o p.attachments x) _ b) (off x (both_left (mine o.guest x) _ a) (both_left (unbarred o e d x) _ c)))
        (all_three l (both_right (mine o.guest x) _ a) (both_right (off_regions o p.attachments x) _ b) (both_right (unbarred o e d x) _ c))

pub attached-facts : (o : Own) (p : Part) (e : Endpoint) (d : Domain) → outside o.domains.start o.domains.end d.0 ≡ false
    → (is_in d (attachment_of e o.endpoints p.attachments) ≡ false → all? (unbarred o e d) p.records ≡ true) → Facts o p → Facts o (attached o e d p)
unfolding attached
attached-facts o p e d r u f = either_way (Facts o) (is_in d a) (λ _. f) (λ i. go (u i) a refl)
  where
    a : Attachment
    a = attachment_of e o.endpoints p.attachments

    go : all? (unbarred o e d) p.records ≡ true → (b : Attachment) → a ≡ b → Facts o (enter o e d (move_from o e b p))
    go v none x = unfold move_from in enter-facts o p e d (λ c. rw x (unfold is_in in refl)) r v f
    go v (some c) x =
        unfold move_from in
        enter-facts o (leave o e c p) e d (λ y. unfold leave in detached y e o.endpoints p.attachments) r
        (unfold leave without in all_keep (unbarred o e d) _ (unbarred o e d) p.records (λ x i g. g) v)
        (leave-facts o p e c (rw x (unfold is_in in eq-eqb c.0 c.0 refl)) f)

-- A RECORD MAPPED

pub map-facts : (o : Own) (p : Part) (d : Domain) (r : Mapping) → r.key ≡ key_of o.guest d → Facts o p → Facts o (handle_map o p d r).1
unfolding handle_map
map-facts o p d r k f = settle-keeps (Facts o) (map_steps o p d r) p (with_records (insert_mapping r p.records) p) (unfold form_steps in refl) f (λ c. go (maps o p d r c))
  where
    go : Maps o p d r → Facts o (with_records (insert_mapping r p.records) p)
    go m =
        let ex = m.early.there in
        let form = m.early.form in
        let small : d.0 < domain_span = omega (arith, outside_high _ _ _ (in-range o d p.attachments ex f.attachments), f.narrow) in
        let dom = key-of-domain o d r small k in
        let free = none_passes (overlap r) p.records m.free in
        record {
          narrow = f.narrow;
          size = f.size;
          attachments = f.attachments;
          own = all_insert (mine o.guest) r p.records (key-mine o d r small k) f.own;
          records = all_insert (record_good o p.attachments) r p.records (record-ok o p.attachments r (rw dom ex) form) f.records;
          clear = all_insert (off_regions o p.attachments) r p.records (unfold off_regions in (rw dom (ap not m.off))) f.clear;
          order = insert-ordered r p.records (form-wide o r form) (all-imp (record_good o p.attachments) wide p.records (λ x g. record-wide o p.attachments x g) f.records) free f.order;
          disjoint = insert-apart r p.records free f.disjoint;
          share = rw (length-insert r p.records) (omega (arith, m.room));
          log = f.log;
        }

pub handle-facts : (o : Own) (p : Part) (r : List ℕ) → Facts o p → Facts o (handle o p r).1
unfolding handle handle_attach handle_detach handle_unmap
handle-facts o p r f =
    either_way (λ (t : ℕ × Part). Facts o t.1) (eqb (type_of r) ATTACH)
    (λ _. settle-keeps (Facts o) (attach_steps o p d e (attach_reserved r)) p _ refl f (λ c. let a = attaches o p d e (attach_reserved r) c in attached-facts o p e d a.within a.free f))
    (λ _. either_way (λ (t : ℕ × Part). Facts o t.1) (eqb (type_of r) DETACH)
    (λ _. settle-keeps (Facts o) (detach_steps o p d e (attach_reserved r)) p _ refl f (λ c. leave-facts o p e d (detaches o p d e (attach_reserved r) c).here f))
    (λ _. either_way (λ (t : ℕ × Part). Facts o t.1) (eqb (type_of r) MAP)
    (λ _. map-facts o p d (asked_for o r) refl f)
    (λ _. either_way (λ (t : ℕ × Part). Facts o t.1) (eqb (type_of r) UNMAP)
    (λ _. settle-keeps (Facts o) (unmap_steps o p d (virt_start r) (virt_end r) (unmap_reserved r)) p _ refl f (λ c. without-keeps o p _ f))
    (λ _. either_way (λ (t : ℕ × Part). Facts o t.1) (eqb (type_of r) PROBE) (λ _. f) (λ _. f)))))
  where
    d : Domain
    d = domain_field r

    e : Endpoint
    e = endpoint_field r

-- ACCESSES, RESET AND FETCH

with-log : (o : Own) (p : Part) (l : Log) → LogFacts o l → Facts o p → Facts o (with_log l p)
with-log o p l h f =
    record { narrow = f.narrow; size = f.size; attachments = f.attachments; own = f.own; records = f.records; clear = f.clear; order = f.order; disjoint = f.disjoint; share = f.share; log = h }

blocked-facts : (o : Own) (p : Part) (why : Cause) (a : Access) → listed a.endpoint o.endpoints ≡ true → Facts o p → Facts o (blocked why a p).1
unfolding blocked
blocked-facts o p why a h f = with-log o p (logged (fault_of why a) p.log) (log-logged o (fault_of why a) p.log (unfold fault_good in (both _ _ (reason why) (both _ (listed a.endpoint o.endpoints) (flag (eqb a.kind 0)) h))) f.log) f
  where
    reason : (c : Cause) → (eqb (reason_of c) 1 || eqb (reason_of c) 2) ≡ true
    reason Unattached = refl
    reason Unmapped = refl

    flag : (b : Bool) → (eqb (cond b 1 2 + 256) 257 || eqb (cond b 1 2 + 256) 258) ≡ true
    flag true = refl
    flag false = refl

pub access-facts : (o : Own) (p : Part) (a : Access) → listed a.endpoint o.endpoints ≡ true → Facts o p → Facts o (access o p a).1
unfolding access
access-facts o p a h f = go (attachment_of a.endpoint o.endpoints p.attachments)
  where
    hit : (m : Option Mapping) → Facts o (translated a p m).1
    hit none = unfold translated in blocked-facts o p Unmapped a h f
    hit (some r) = unfold translated in f

    go : (b : Attachment) → Facts o (decided o p a b).1
    go none = unfold decided in blocked-facts o p Unattached a h f
    go (some d) = unfold decided in hit (find_mapping (key_of o.guest d) a p.records)

pub reset-facts : (o : Own) (p : Part) → Facts o p → Facts o (after_reset p)
unfolding after_reset
reset-facts o p f =
    record {
      narrow = f.narrow;
      size = length-replicate (length p.attachments) none ∙ f.size;
      attachments = all_none (in_range o) (length p.attachments) (unfold in_range in refl);
      own = refl;
      records = refl;
      clear = refl;
      order = refl;
      disjoint = refl;
      share = omega arith;
      log = record { count = omega arith; lost = omega arith; faults = refl };
    }

-- the endpoint of an access is the guest's
abbrev pub Named : Own → Call → Type 0
Named o (of_guest g j) = Unit {0}
Named o (access_by a) = listed a.endpoint o.endpoints ≡ true

job-facts : (o : Own) (p : Part) (j : Job) → Facts o p → Facts o (job_rule o p j).1
unfolding job_rule
job-facts o p (request r w) f = go (first_failing (request_refusals r (length w)))
  where
    go : (m : Option Refusal) → Facts o (requested o p r w m).1
    go none = unfold requested in handle-facts o p r f
    go (some a) = unfold requested in f
job-facts o p reset f = reset-facts o p f
job-facts o p (fetch b) f = with-log o p (fetched_from (fetchable p.log b) p.log) (log-fetched o (fetchable p.log b) p.log f.log) f

-- every call of the guest's own keeps its part sound
pub rule-facts : (o : Own) (p : Part) (c : Call) → Named o c → Facts o p → Facts o (rule o p c).1
unfolding rule
rule-facts o p (of_guest g j) _ f = job-facts o p j f
rule-facts o p (access_by a) h f = access-facts o p a h f
