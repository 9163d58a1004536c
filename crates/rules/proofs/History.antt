-- Records held are those mapped less those taken away.
use Prim.Native.Nat.{ℕ, ◌+◌, ◌<◌}
use mathlib.Core.Path.{◌≡◌, refl, sym, ap, subst, ◌∙◌}
use mathlib.Core.Bool.{Bool, true, false, cond, not, ◌&&◌}
use mathlib.Core.List.{List, [], ◌∷◌}
use mathlib.Core.Option.{Option, some, none}
use native.Mathlib.Omega.{arith}
use lib.Dec.{eqb}
use lib.ListN.{length}
use borrow.Author.Tests.{eqb-true}
use Rattle.laws.specs.Lists.{keep, first_failing}
use Rattle.laws.specs.Runs.{after}
use Rattle.laws.proofs.Filters.{keep_same, split}
use Rattle.rules.specs.declared.Guest.{Guest}
use Rattle.rules.specs.declared.Endpoint.{Endpoint}
use Rattle.rules.specs.declared.Domain.{Domain}
use Rattle.rules.specs.declared.Mapping.{Mapping}
use Rattle.rules.specs.declared.Access.{Access}
use Rattle.rules.specs.declared.Refusal.{Refusal}
use Rattle.rules.specs.Configuration.{Config}
use Rattle.rules.specs.Table.{key_of, insert_mapping}
use Rattle.rules.specs.State.{Attachment, World, Device, read, write}
use Rattle.rules.specs.Guests.{Own, Part, own, part, with_records}
use Rattle.rules.specs.Requests.{OK, ATTACH, DETACH, MAP, request_refusals, type_of, domain_field, endpoint_field, attach_reserved, virt_start, virt_end, unmap_reserved, probe_endpoint, DEVERR, UNMAP, PROBE}
use Rattle.rules.specs.Handlers.{settle, is_in, attachment_of, without, leave, enter, move_from, attached, attach_steps, handle_attach, detach_steps, handle_detach, map_steps, handle_map, inside, unmap_steps, handle_unmap, probe_steps, asked_for, handle, bytes_before, status_of}
use Rattle.rules.specs.Access.{find_mapping, blocked, translated, decided, access, after_reset}
use Rattle.rules.specs.Device.{request, reset, fetch, Call, of_guest, access_by, Reply, requested, job_rule, rule, owns}
use Rattle.rules.specs.History.{gone_with_domain, gone_by_move, gone_by_request, gone_by_job, gone, taken_away, mapped_by_job, mapped, Tally, counted, history}
use Rattle.rules.proofs.Records.{length-insert}
use Rattle.rules.proofs.Worlds.{Whole, step_world, step_keeps, step_other, step-mine}
use Rattle.rules.proofs.Writing.{read-write}
use Rattle.rules.proofs.Steps.{step-write}

all-kept : (l : List Mapping) → keep (λ r. true) l ≡ l
all-kept [] = refl
all-kept (r ∷ l) = ap (λ m. r ∷ m) (all-kept l)

none_kept : (l : List Mapping) → keep (λ r. false) l ≡ []
none_kept [] = refl
none_kept (r ∷ l) = none_kept l

-- what a request leaves, by whether its status is OK
settled : (P : Bool → Part → Type 0) (s : ℕ) (p q : Part) → P true q → P false p → P (eqb (settle s p q).0 OK) (settle s p q).1
unfolding settle
settled P s p q a b = go (eqb s OK)
  where
    go : (t : Bool) → P t (cond t q p)
    go true = a
    go false = b

both_false : (t : Bool) → (t && false) ≡ false
both_false true = refl
both_false false = refl

-- RECORDS LEFT, BY THE REQUEST'S TYPE

module _ (o : Own) (p : Part) where
  attach-left : (e : Endpoint) (d : Domain) (z : ℕ) → (handle_attach o p d e z).1.records ≡ keep (λ r. not (eqb (handle_attach o p d e z).0 OK && gone_by_move o p e d (attachment_of e o.endpoints p.attachments) r)) p.records
  unfolding handle_attach
  attach-left e d z =
      settled (λ b q. q.records ≡ keep (λ r. not (b && gone_by_move o p e d a r)) p.records) (status_of (attach_steps o p d e z)) p (attached o e d p)
      (unfold attached in go a) (sym (all-kept p.records))
    where
      a : Attachment
      a = attachment_of e o.endpoints p.attachments

      moved : (was : Domain) (b : Bool) → is_in d (some was) ≡ b → (cond b p (enter o e d (leave o e was p))).records ≡ keep (λ r. not (not b && gone_with_domain o p e was r)) p.records
      moved was true i = sym (all-kept p.records)
      moved was false i = unfold enter leave without in refl

      go : (b : Attachment) → (cond (is_in d b) p (enter o e d (move_from o e b p))).records ≡ keep (λ r. not (gone_by_move o p e d b r)) p.records
      go none = unfold is_in move_from enter in sym (all-kept p.records)
      go (some was) = unfold move_from in moved was (is_in d (some was)) refl

  detach-left : (e : Endpoint) (d : Domain) (z : ℕ) → (handle_detach o p d e z).1.records ≡ keep (λ r. not (eqb (handle_detach o p d e z).0 OK && gone_with_domain o p e d r)) p.records
  unfolding handle_detach
  detach-left e d z =
      settled (λ b q. q.records ≡ keep (λ r. not (b && gone_with_domain o p e d r)) p.records) (status_of (detach_steps o p d e z)) p (leave o e d p)
      (unfold leave without in refl) (sym (all-kept p.records))

  unmap-left : (d : Domain) (a b z : ℕ) → (handle_unmap o p d a b z).1.records ≡ keep (λ r. not (eqb (handle_unmap o p d a b z).0 OK && inside (key_of o.guest d) a b r)) p.records
  unfolding handle_unmap
  unmap-left d a b z =
      settled (λ t q. q.records ≡ keep (λ r. not (t && inside (key_of o.guest d) a b r)) p.records) (status_of (unmap_steps o p d a b z)) p _
      (unfold without in refl) (sym (all-kept p.records))

  handle-left : (q : List ℕ) → eqb (type_of q) MAP ≡ false → (handle o p q).1.records ≡ keep (λ r. not (gone_by_request o p q r)) p.records
  unfolding handle gone_by_request
  handle-left q m = rw m (go (eqb (type_of q) ATTACH) (eqb (type_of q) DETACH) (eqb (type_of q) UNMAP) (eqb (type_of q) PROBE))
    where
      d : Domain
      d = domain_field q

      e : Endpoint
      e = endpoint_field q

      by : Bool → Bool → Bool → Bool → ℕ × Part
      by t u v w = cond t (handle_attach o p d e (attach_reserved q)) (cond u (handle_detach o p d e (attach_reserved q)) (cond v (handle_unmap o p d (virt_start q) (virt_end q) (unmap_reserved q)) (cond w (status_of (probe_steps o (probe_endpoint q)), p) (DEVERR, p))))

      go : (t u v w : Bool) → (by t u v w).1.records
          ≡ keep (λ r. not (eqb (by t u v w).0 OK && cond t (gone_by_move o p e d (attachment_of e o.endpoints p.attachments) r)
          (cond u (gone_with_domain o p e d r) (cond v (inside (key_of o.guest d) (virt_start q) (virt_end q) r) false)))) p.records
      go true u v w = attach-left e d (attach_reserved q)
      go false true v w = detach-left e d (attach_reserved q)
      go false false true w = unmap-left d (virt_start q) (virt_end q) (unmap_reserved q)
      go false false false true = sym (keep_same (λ r. not (eqb (status_of (probe_steps o (probe_endpoint q))) OK && false)) (λ r. true) p.records (λ r. ap not (both_false (eqb (status_of (probe_steps o (probe_endpoint q))) OK))) ∙ all-kept p.records)
      go false false false false = sym (all-kept p.records)

  access-left : (x : Access) → (access o p x).1.records ≡ p.records
  unfolding access
  access-left x = go (attachment_of x.endpoint o.endpoints p.attachments)
    where
      hit : (m : Option Mapping) → (translated x p m).1.records ≡ p.records
      hit none = unfold translated blocked in refl
      hit (some r) = unfold translated in refl

      go : (a : Attachment) → (decided o p x a).1.records ≡ p.records
      go none = unfold decided blocked in refl
      go (some d) = unfold decided in hit (find_mapping (key_of o.guest d) x p.records)

  -- ONE CALL

  plain : (x : Call) → (rule o p x).1.records ≡ keep (λ r. not (gone o p x r)) p.records → mapped x (rule o p x).0 ≡ false → length (rule o p x).1.records + taken_away o p x ≡ length p.records + cond (mapped x (rule o p x).0) 1 0
  plain x left off = unfold taken_away in (rw (left, off) (omega (arith, split (gone o p x) p.records)))

  map-balance : (d : Domain) (r : Mapping) → length (handle_map o p d r).1.records ≡ length p.records + cond (eqb (handle_map o p d r).0 OK) 1 0
  unfolding handle_map
  map-balance d r =
      settled (λ t q. length q.records ≡ length p.records + cond t 1 0) (status_of (map_steps o p d r)) p (with_records (insert_mapping r p.records) p)
      (omega (arith, length-insert r p.records)) (omega arith)

  -- a MAP takes no record away
  map-stays : (g : Guest) (q w : List ℕ) → first_failing (request_refusals q (length w)) ≡ none → type_of q ≡ MAP → (r : Mapping) → gone o p (of_guest g (request q w)) r ≡ false
  unfolding gone gone_by_job gone_by_request
  map-stays g q w e three r = rw (e, three) (both_false (eqb (handle o p q).0 OK))

  mapped-balance : (g : Guest) (q w : List ℕ) → first_failing (request_refusals q (length w)) ≡ none → type_of q ≡ MAP → keep (gone o p (of_guest g (request q w))) p.records ≡ []
      → length (rule o p (of_guest g (request q w))).1.records + taken_away o p (of_guest g (request q w)) ≡ length p.records + cond (mapped (of_guest g (request q w)) (rule o p (of_guest g (request q w))).0) 1 0
  unfolding rule job_rule taken_away mapped mapped_by_job requested handle bytes_before
  mapped-balance g q w e three k = rw (k, e, three) (omega (arith, map-balance (domain_field q) (asked_for o q)))

  worked-balance : (g : Guest) (q w : List ℕ) → first_failing (request_refusals q (length w)) ≡ none → (t : Bool) → eqb (type_of q) MAP ≡ t
      → length (rule o p (of_guest g (request q w))).1.records + taken_away o p (of_guest g (request q w)) ≡ length p.records + cond (mapped (of_guest g (request q w)) (rule o p (of_guest g (request q w))).0) 1 0
  worked-balance g q w e true t =
      let three = eqb-true (type_of q) MAP t in
      mapped-balance g q w e three (keep_same (gone o p (of_guest g (request q w))) (λ r. false) p.records (map-stays g q w e three) ∙ none_kept p.records)
  worked-balance g q w e false t =
      plain (of_guest g (request q w)) (unfold rule job_rule gone gone_by_job requested in (rw e (handle-left q t)))
      (unfold mapped mapped_by_job in (rw t))

  refused-balance : (g : Guest) (q w : List ℕ) (a : Refusal) → first_failing (request_refusals q (length w)) ≡ some a
      → length (rule o p (of_guest g (request q w))).1.records + taken_away o p (of_guest g (request q w)) ≡ length p.records + cond (mapped (of_guest g (request q w)) (rule o p (of_guest g (request q w))).0) 1 0
  refused-balance g q w a e =
      plain (of_guest g (request q w)) (unfold rule job_rule gone gone_by_job requested in (rw e (sym (all-kept p.records))))
      (unfold rule job_rule mapped mapped_by_job requested in (rw e (both_false (eqb (type_of q) MAP))))

  request-balance : (g : Guest) (q w : List ℕ) (m : Option Refusal) → first_failing (request_refusals q (length w)) ≡ m
      → length (rule o p (of_guest g (request q w))).1.records + taken_away o p (of_guest g (request q w)) ≡ length p.records + cond (mapped (of_guest g (request q w)) (rule o p (of_guest g (request q w))).0) 1 0
  request-balance g q w none e = worked-balance g q w e (eqb (type_of q) MAP) refl
  request-balance g q w (some a) e = refused-balance g q w a e

  -- records after, with those taken away, are records before, with the one mapped
  pub balance : (x : Call) → length (rule o p x).1.records + taken_away o p x ≡ length p.records + cond (mapped x (rule o p x).0) 1 0
  balance (of_guest g (request q w)) = request-balance g q w (first_failing (request_refusals q (length w))) refl
  balance (of_guest g reset) = plain (of_guest g reset) (unfold rule job_rule gone gone_by_job after_reset in sym (none_kept p.records)) (unfold mapped mapped_by_job in refl)
  balance (of_guest g (fetch b)) = plain (of_guest g (fetch b)) (unfold rule job_rule gone gone_by_job in sym (all-kept p.records)) (unfold mapped mapped_by_job in refl)
  balance (access_by x) = plain (access_by x) (unfold rule gone in (access-left x ∙ sym (all-kept p.records))) (unfold mapped in refl)

-- OVER A HISTORY

-- where records held and taken away are those mapped, so they are after any calls
pub held-over : (c : Config) (g : Guest) (xs : List Call) (w : World) (t : Tally) → Whole c w → g.0 < c.settings.guests → length (part c g w).records + t.taken ≡ t.mapped
    → length (part c g (after (step_world c) w xs)).records + (history c g (write c w) xs t).taken ≡ (history c g (write c w) xs t).mapped
held-over c g [] w t h l i = i
held-over c g (x ∷ xs) w t h l i =
    subst (λ (z : Tally). length (part c g (after (step_world c) w (x ∷ xs))).records + z.taken ≡ z.mapped) (sym one_more)
    (held-over c g xs v next (step_keeps c w x h) l (go (owns c g x) refl))
  where
    v : World
    v = (step_world c w x).1

    next : Tally
    next = cond (owns c g x) (counted (own c g) (part c g w) x (step_world c w x).0 t) t

    one_more : history c g (write c w) (x ∷ xs) t ≡ history c g (write c v) xs next
    one_more =
        ap (λ (r : Reply × Device). history c g r.1 xs (cond (owns c g x) (counted (own c g) (part c g (read (write c w))) x r.0 t) t)) (step-write c w x h)
        ∙ ap (λ (u : World). history c g (write c v) xs (cond (owns c g x) (counted (own c g) (part c g u) x (step_world c w x).0 t) t)) (read-write c w h)

    go : (b : Bool) → owns c g x ≡ b
        → length (part c g v).records + (cond b (counted (own c g) (part c g w) x (step_world c w x).0 t) t).taken ≡ (cond b (counted (own c g) (part c g w) x (step_world c w x).0 t) t).mapped
    go true e =
        let k : length (part c g v).records ≡ length (rule (own c g) (part c g w) x).1.records = ap (λ (p : Part). length p.records) (step-mine c w x g h l e).1 in
        rw (step-mine c w x g h l e).0 (omega (arith, i, k, balance (own c g) (part c g w) x))
    go false e =
        let k : length (part c g v).records ≡ length (part c g w).records = ap (λ (p : Part). length p.records) (step_other c w x g h e) in
        omega (arith, i, k)
