-- NOMEM comes from the guest's share alone, and within its share a guest finds room in the table.
use Prim.Native.Nat.{ℕ, zero, suc, ◌+◌, ◌≤◌, ◌<◌}
use mathlib.Core.Path.{◌≡◌, refl, sym, ap, ◌∙◌}
use mathlib.Core.Bool.{Bool, true, false, cond, not}
use mathlib.Core.List.{List, [], ◌∷◌}
use mathlib.Core.Option.{Option, some, none}
use native.Mathlib.Omega.{arith}
use lib.Dec.{leb, eqb}
use lib.ListN.{length}
use borrow.Author.Tests.{eqb-true, eqb-false, leb-true, not-true}
use Rattle.laws.specs.Lists.{all?, any?, sum_below, first_failing}
use Rattle.laws.proofs.Tests.{true-false, failing-among, failing-late}
use Rattle.laws.proofs.Tables.{sum-le}
use Rattle.rules.specs.declared.Guest.{Guest}
use Rattle.rules.specs.declared.Domain.{Domain}
use Rattle.rules.specs.declared.Endpoint.{Endpoint}
use Rattle.rules.specs.declared.Mapping.{Mapping}
use Rattle.rules.specs.declared.Refusal.{Refusal}
use Rattle.rules.specs.declared.Refusal.TheVariants.{NoSuchGuest, Unsound, UnknownType, WrongLength, BadConfiguration, UnknownEndpoint}
use Rattle.rules.specs.Answers.{refusal_number, number}
use Rattle.rules.specs.Configuration.{Config, share}
use Rattle.rules.specs.Table.{key_of, overlap}
use Rattle.rules.specs.State.{Attachment, World, config_of, read}
use Rattle.rules.specs.Guests.{Own, Part, own, part, records_of, with_records}
use Rattle.rules.specs.Requests.{DEVERR, INVAL, NOMEM, ATTACH, DETACH, MAP, UNMAP, PROBE, request_refusals, type_of, domain_field, endpoint_field, attach_reserved, virt_start, virt_end, unmap_reserved, probe_endpoint, status_in}
use Rattle.rules.specs.Handlers.{Steps, or_ok, status_of, settle, regions_in, on_region, attached, leave, attach_steps, handle_attach, detach_steps, handle_detach, form_steps, record_steps, map_steps, handle_map, inside, without, unmap_steps, handle_unmap, probe_steps, asked_for, handle, bytes_before}
use Rattle.rules.specs.Access.{translated, blocked, decided, access}
use Rattle.rules.specs.Sound.{guest}
use Rattle.rules.specs.Device.{Job, request, reset, fetch, Call, of_guest, access_by, Reply, refused_with, requested, job_rule, rule, caller, numbered, work}
use Rattle.rules.specs.Claims.{NoMemOnlyByShare, RoomWithinShare}
use Rattle.rules.proofs.Chains.{status-last}
use Rattle.rules.proofs.Worlds.{Whole, performed_world, step_world}
use Rattle.rules.proofs.Shares.{records-sum, shares_sum}
use Rattle.rules.proofs.Reading.{sound-whole}
use Rattle.rules.proofs.Steps.{reply-of}

-- a status that is not OK is that of the first failing step
settled-by : (l : Steps) (p q : Part) (s : ℕ) → 0 < s → (settle (status_of l) p q).0 ≡ s → first_failing l ≡ some s
unfolding settle
settled-by l p q s h = go (first_failing l)
  where
    go : (v : Option ℕ) → or_ok v ≡ s → v ≡ some s
    go none e = absurd (omega (arith, e))
    go (some t) e = ap (λ n. some n) e

-- steps none of which answers NOMEM
never-nomem : (l : Steps) (p q : Part) → all? (λ s. not (eqb s.1 NOMEM)) l ≡ true → (settle (status_of l) p q).0 ≡ NOMEM → ⊥
never-nomem l p q h e = true-false {P = ⊥} (not (eqb NOMEM NOMEM)) (failing-among (λ n. not (eqb n NOMEM)) l NOMEM (settled-by l p q NOMEM (omega arith) e) h) refl

map-nomem : (o : Own) (p : Part) (d : Domain) (r : Mapping) → (handle_map o p d r).0 ≡ NOMEM → o.share ≤ length p.records
unfolding handle_map
map-nomem o p d r e = go (any? (overlap r) p.records) (on_region (regions_in d p.attachments o.regions) r) (leb o.share (length p.records)) refl late
  where
    late : first_failing ((any? (overlap r) p.records, INVAL) ∷ (on_region (regions_in d p.attachments o.regions) r, INVAL) ∷ (leb o.share (length p.records), NOMEM) ∷ []) ≡ some NOMEM
    late = failing-late (λ n. not (eqb n NOMEM)) (record_steps o p.attachments d r) _ NOMEM (settled-by (map_steps o p d r) p _ NOMEM (omega arith) e) (unfold form_steps in refl) refl

    go : (a q b : Bool) → leb o.share (length p.records) ≡ b → first_failing ((a, INVAL) ∷ (q, INVAL) ∷ (b, NOMEM) ∷ []) ≡ some NOMEM → o.share ≤ length p.records
    go a q true i f = leb-true _ _ i
    go true q false i f = absurd (let z : ◌≡◌ {A = ℕ} 4 8 = cc in omega arith)
    go false true false i f = absurd (let z : ◌≡◌ {A = ℕ} 4 8 = cc in omega arith)
    go false false false i f = absurd (let z : ◌≡◌ {A = ℕ} 0 1 = cc in omega arith)

handle-nomem : (o : Own) (p : Part) (r : List ℕ) → (handle o p r).0 ≡ NOMEM → o.share ≤ length p.records
unfolding handle
handle-nomem o p r = go (eqb (type_of r) ATTACH) (eqb (type_of r) DETACH) (eqb (type_of r) MAP) (eqb (type_of r) UNMAP) (eqb (type_of r) PROBE)
  where
    d : Domain
    d = domain_field r

    e : Endpoint
    e = endpoint_field r

    go : (t u v w x : Bool)
        → (cond t (handle_attach o p d e (attach_reserved r)) (cond u (handle_detach o p d e (attach_reserved r)) (cond v (handle_map o p d (asked_for o r)) (cond w (handle_unmap o p d (virt_start r) (virt_end r) (unmap_reserved r)) (cond x (status_of (probe_steps o (probe_endpoint r)), p) (DEVERR, p)))))).0 ≡ NOMEM
        → o.share ≤ length p.records
    go true u v w x i = absurd (never-nomem (attach_steps o p d e (attach_reserved r)) p (attached o e d p) refl (unfold handle_attach in i))
    go false true v w x i = absurd (never-nomem (detach_steps o p d e (attach_reserved r)) p (leave o e d p) refl (unfold handle_detach in i))
    go false false true w x i = map-nomem o p d (asked_for o r) i
    go false false false true x i = absurd (never-nomem (unmap_steps o p d (virt_start r) (virt_end r) (unmap_reserved r)) p (with_records (without (inside (key_of o.guest d) (virt_start r) (virt_end r)) p.records) p) refl (unfold handle_unmap in i))
    go false false false false true i = absurd (never-nomem (probe_steps o (probe_endpoint r)) p p refl (unfold settle in i))
    go false false false false false i = absurd (omega (arith, i))

request-nomem : (o : Own) (p : Part) (r w : List ℕ) (m : Option Refusal) → number (requested o p r w m).0.answer ≡ 0 → status_in (requested o p r w m).0.buffer ≡ NOMEM → o.share ≤ length p.records
unfolding requested
request-nomem o p r w none u s = handle-nomem o p r (sym (status-last (bytes_before o r) (handle o p r).0) ∙ s)
request-nomem o p r w (some a) u s = absurd (refused a u)
  where
    refused : (e : Refusal) → refusal_number e ≡ 0 → ⊥
    refused NoSuchGuest h = omega (arith, h)
    refused Unsound h = omega (arith, h)
    refused UnknownType h = omega (arith, h)
    refused WrongLength h = omega (arith, h)
    refused BadConfiguration h = omega (arith, h)
    refused UnknownEndpoint h = omega (arith, h)

rule-nomem : (c : Config) (g : Guest) (w : World) (r b : List ℕ) → number (rule (own c g) (part c g w) (of_guest g (request r b))).0.answer ≡ 0 → status_in (rule (own c g) (part c g w) (of_guest g (request r b))).0.buffer ≡ NOMEM → share c.settings g.0 ≤ length (part c g w).records
unfolding rule job_rule own
rule-nomem c g w r b u s = request-nomem (own c g) (part c g w) r b (first_failing (request_refusals r (length b))) u s

step-nomem : (c : Config) (g : Guest) (w : World) (r b : List ℕ) → number (step_world c w (of_guest g (request r b))).0.answer ≡ 0 → status_in (step_world c w (of_guest g (request r b))).0.buffer ≡ NOMEM → share c.settings g.0 ≤ length (part c g w).records
unfolding step_world performed_world caller work
step-nomem c g w r b = go (not (numbered c (of_guest g (request r b))))
  where
    go : (t : Bool)
        → number (cond t (refused_with NoSuchGuest (of_guest g (request r b)), w) (work c g w (of_guest g (request r b)))).0.answer ≡ 0
        → status_in (cond t (refused_with NoSuchGuest (of_guest g (request r b)), w) (work c g w (of_guest g (request r b)))).0.buffer ≡ NOMEM → share c.settings g.0 ≤ length (part c g w).records
    go true u s = absurd (omega (arith, u))
    go false u s = rule-nomem c g w r b u s

pub no-mem-only-by-share : NoMemOnlyByShare
no-mem-only-by-share d s g r w u b =
    let e = reply-of d (of_guest g (request r w)) s in
    step-nomem (config_of d.state) g (read d) r w (ap (λ (y : Reply). number y.answer) (sym e) ∙ u) (ap (λ (y : Reply). status_in y.buffer) (sym e) ∙ b)

-- ROOM

-- one number below its bound leaves the sum below the sum of the bounds
sum_below-less : (n k : ℕ) (f h : ℕ → ℕ) → k < n → ((i : ℕ) → i < n → f i ≤ h i) → f k < h k → sum_below n f < sum_below n h
unfolding sum_below
sum_below-less zero k f h l a b = absurd (omega arith)
sum_below-less (suc n) k f h l a b = go (eqb k n) refl (λ m. sum_below-less n k f h m (λ i j. a i (omega arith)) b)
  where
    go : (t : Bool) → eqb k n ≡ t → (k < n → sum_below n f < sum_below n h) → f n + sum_below n f < h n + sum_below n h
    go true e i = let z : k ≡ n = eqb-true k n e in let y : f n < h n = rw (sym z) b in omega (arith, y, sum-le n f h (λ i j. a i (omega arith)))
    go false e i = omega (arith, i (omega (arith, eqb-false k n e)), a n (omega arith))

pub room-within-share : RoomWithinShare
room-within-share d s g l h =
    rw (records-sum c.settings.guests (read d).records whole.guests)
    (omega (arith, sum_below-less c.settings.guests g.0 (λ k. length (records_of (guest k) (read d).records)) (share c.settings) l (λ k m. unfold own part in (whole.parts (guest k) m).share) (unfold part in h), shares_sum c whole.config))
  where
    c : Config
    c = config_of d.state

    whole : Whole c (read d)
    whole = sound-whole d s

-- NUMBERS

-- no rule answers 2
job-number : (o : Own) (p : Part) (j : Job) → eqb (number (job_rule o p j).0.answer) 2 ≡ false
unfolding job_rule
job-number o p (request r w) = go (first_failing (request_refusals r (length w))) refl
  where
    go : (m : Option Refusal) → first_failing (request_refusals r (length w)) ≡ m → eqb (number (requested o p r w m).0.answer) 2 ≡ false
    go none e = unfold requested in refl
    go (some a) e = unfold requested in not-true (eqb (refusal_number a) 2) (failing-among (λ b. not (eqb (refusal_number b) 2)) (request_refusals r (length w)) a e refl)
job-number o p reset = refl
job-number o p (fetch b) = refl

pub rule-number : (o : Own) (p : Part) (x : Call) → eqb (number (rule o p x).0.answer) 2 ≡ false
unfolding rule
rule-number o p (of_guest g j) = job-number o p j
rule-number o p (access_by x) = unfold access in go _
  where
    hit : (m : Option Mapping) → eqb (number (translated x p m).0) 2 ≡ false
    hit none = unfold translated blocked in refl
    hit (some r) = unfold translated in refl

    go : (a : Attachment) → eqb (number (decided o p x a).0) 2 ≡ false
    go none = unfold decided blocked in refl
    go (some d) = unfold decided in hit _
