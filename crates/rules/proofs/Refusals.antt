-- A call that is refused, a request whose status is not OK, and an access that goes through change nothing.
use Prim.Native.Nat.{ℕ}
use mathlib.Core.Path.{◌≡◌, refl, ◌∙◌}
use mathlib.Core.Bool.{true, false, not}
use mathlib.Core.List.{List, []}
use mathlib.Core.Option.{Option, some, none}
use native.Mathlib.Omega.{arith}
use lib.Dec.{eqb}
use lib.ListN.{length}
use borrow.Author.Tests.{not-false, ne_eqb}
use Rattle.laws.specs.Lists.{first_failing}
use Rattle.laws.proofs.Tests.{either_way, true-false}
use Rattle.rules.specs.declared.Guest.{Guest}
use Rattle.rules.specs.declared.Mapping.{Mapping}
use Rattle.rules.specs.declared.Access.{Access}
use Rattle.rules.specs.declared.Refusal.{Refusal}
use Rattle.rules.specs.declared.Refusal.TheVariants.{NoSuchGuest, Unsound}
use Rattle.rules.specs.Answers.{number}
use Rattle.rules.specs.Configuration.{good}
use Rattle.rules.specs.Sizes.{table_words}
use Rattle.rules.specs.State.{Attachment, Device, config_of, read, zero_state}
use Rattle.rules.specs.Guests.{Own, Part, own, part}
use Rattle.rules.specs.Requests.{OK, ATTACH, DETACH, MAP, UNMAP, PROBE, request_refusals, type_of, status_in}
use Rattle.rules.specs.Handlers.{settle, handle_attach, handle_detach, handle_map, handle_unmap, handle, bytes_before, attachment_of}
use Rattle.rules.specs.Access.{blocked, translated, find_mapping, decided, access}
use Rattle.rules.specs.Table.{key_of}
use Rattle.rules.specs.Sound.{sound}
use Rattle.rules.specs.Device.{request, reset, fetch, Call, of_guest, access_by, Reply, lent, refused_with, requested, job_rule, rule, caller, numbered, work, performed, step, SetUp, set_up}
use Rattle.rules.specs.Claims.{changes_nothing, RefusalsChangeNothing, FailuresChangeNothing, ProbesChangeNothing, ThroughChangesNothing, RefusedSetUpIsZero}
use Rattle.rules.proofs.Chains.{status-last}
use Rattle.rules.proofs.Unchanged.{still}

-- THE STEP, BY WHAT COMES BEFORE THE RULE

pub no-such-guest : (d : Device) (x : Call) → numbered (config_of d.state) x ≡ false → step d x ≡ (refused_with NoSuchGuest x, d)
unfolding step
no-such-guest d x n = rw n

pub unsound : (d : Device) (x : Call) → numbered (config_of d.state) x ≡ true → sound d ≡ false → step d x ≡ (refused_with Unsound x, d)
unfolding step
unsound d x n s = rw (n, s)

pub sound-step : (d : Device) (x : Call) → numbered (config_of d.state) x ≡ true → sound d ≡ true → step d x ≡ performed d (caller (config_of d.state) x) x
unfolding step
sound-step d x n s = rw (n, s)

-- what holds of the device itself, and of what the caller's rule leaves, holds of the step
by-step : (P : Reply × Device → Type 0) (d : Device) (x : Call) → ((e : Refusal) → P (refused_with e x, d))
    → ((g : Guest) → sound d ≡ true → P (performed d (some g) x)) → P (step d x)
unfolding step performed
by-step P d x early ruled =
    either_way P (not (numbered (config_of d.state) x)) (λ n. early _)
    (λ n. either_way P (not (sound d)) (λ s. early _) (λ s. go (caller (config_of d.state) x) (not-false (sound d) s)))
  where
    go : (m : Option Guest) → sound d ≡ true → P (performed d m x)
    go none s = early _
    go (some g) s = ruled g s

-- REFUSALS

rule-same : (o : Own) (p : Part) (x : Call) → changes_nothing (number (rule o p x).0.answer) ≡ true → ((rule o p x).1 ≡ p) × ((rule o p x).0.buffer ≡ lent x)
unfolding rule job_rule access
rule-same o p (of_guest g (request r w)) h = go (first_failing (request_refusals r (length w))) h
  where
    go : (m : Option Refusal) → changes_nothing (number (requested o p r w m).0.answer) ≡ true → ((requested o p r w m).1 ≡ p) × ((requested o p r w m).0.buffer ≡ w)
    go none h = true-false false (unfold requested in h) refl
    go (some e) h = unfold requested in (refl, refl)
rule-same o p (of_guest g reset) h = true-false false h refl
rule-same o p (of_guest g (fetch b)) h = true-false false h refl
rule-same o p (access_by x) h = go (attachment_of x.endpoint o.endpoints p.attachments) h
  where
    hit : (m : Option Mapping) → changes_nothing (number (translated x p m).0) ≡ true → ((translated x p m).1 ≡ p) × (◌≡◌ {A = List ℕ} [] [])
    hit none h = true-false false (unfold translated blocked in h) refl
    hit (some r) h = true-false false (unfold translated in h) refl

    go : (a : Attachment) → changes_nothing (number (decided o p x a).0) ≡ true → ((decided o p x a).1 ≡ p) × (◌≡◌ {A = List ℕ} [] [])
    go none h = true-false false (unfold decided blocked in h) refl
    go (some d) h = unfold decided in hit (find_mapping (key_of o.guest d) x p.records) (unfold decided in h)

pub refusals-change-nothing : RefusalsChangeNothing
refusals-change-nothing d k x =
    by-step (λ r. changes_nothing (number r.0.answer) ≡ true → (r.1 ≡ d) × (r.0.buffer ≡ lent x)) d x (λ e _. (refl, refl))
    (λ g s. unfold performed work in (λ h. let r = rule-same (own (config_of d.state) g) (part (config_of d.state) g (read d)) x h in (still d s k g _ r.0, r.1)))

-- STATUSES THAT ARE NOT OK

settle-same : (s : ℕ) (p q : Part) → ((settle s p q).0 ≡ OK → ⊥) → (settle s p q).1 ≡ p
unfolding settle
settle-same s p q n = rw (ne_eqb s OK n)

handle-same : (o : Own) (p : Part) (r : List ℕ) → ((handle o p r).0 ≡ OK → ⊥) → (handle o p r).1 ≡ p
unfolding handle
handle-same o p r =
    either_way Same (eqb (type_of r) ATTACH) (λ _. unfold handle_attach in settle-same _ p _)
    (λ _. either_way Same (eqb (type_of r) DETACH) (λ _. unfold handle_detach in settle-same _ p _)
    (λ _. either_way Same (eqb (type_of r) MAP) (λ _. unfold handle_map in settle-same _ p _)
    (λ _. either_way Same (eqb (type_of r) UNMAP) (λ _. unfold handle_unmap in settle-same _ p _)
    (λ _. either_way Same (eqb (type_of r) PROBE) (λ _ _. refl) (λ _ _. refl)))))
  where
    Same : ℕ × Part → Type 0
    Same y = (y.0 ≡ OK → ⊥) → y.1 ≡ p

failed-same : (o : Own) (p : Part) (r w : List ℕ) → (m : Option Refusal) → (status_in (requested o p r w m).0.buffer ≡ OK → ⊥) → (requested o p r w m).1 ≡ p
unfolding requested
failed-same o p r w none n = handle-same o p r (λ e. n (status-last (bytes_before o r) (handle o p r).0 ∙ e))
failed-same o p r w (some e) n = refl

pub failures-change-nothing : FailuresChangeNothing
failures-change-nothing d k g r w =
    by-step (λ y. number y.0.answer ≡ 0 → (status_in y.0.buffer ≡ OK → ⊥) → y.1 ≡ d) d (of_guest g (request r w)) (λ e _ _. refl)
    (λ h s. unfold performed work rule job_rule in (λ _ n. still d s k h _ (failed-same (own (config_of d.state) h) (part (config_of d.state) h (read d)) r w (first_failing (request_refusals r (length w))) n)))

-- PROBES

probe-same : (o : Own) (p : Part) (r w : List ℕ) → type_of r ≡ PROBE → (m : Option Refusal) → (requested o p r w m).1 ≡ p
unfolding requested handle
probe-same o p r w e none = rw e
probe-same o p r w e (some a) = refl

pub probes-change-nothing : ProbesChangeNothing
probes-change-nothing d k g r w e =
    by-step (λ y. y.1 ≡ d) d (of_guest g (request r w)) (λ _. refl)
    (λ h s. unfold performed work rule job_rule in still d s k h _ (probe-same (own (config_of d.state) h) (part (config_of d.state) h (read d)) r w e (first_failing (request_refusals r (length w)))))

-- ACCESSES THAT GO THROUGH

access-same : (o : Own) (p : Part) (x : Access) → number (access o p x).0 ≡ 0 → (access o p x).1 ≡ p
unfolding access
access-same o p x = go (attachment_of x.endpoint o.endpoints p.attachments)
  where
    hit : (m : Option Mapping) → number (translated x p m).0 ≡ 0 → (translated x p m).1 ≡ p
    hit none = unfold translated blocked in (λ h. absurd (omega arith))
    hit (some r) = unfold translated in (λ h. refl)

    go : (a : Attachment) → number (decided o p x a).0 ≡ 0 → (decided o p x a).1 ≡ p
    go none = unfold decided blocked in (λ h. absurd (omega arith))
    go (some d) = unfold decided in hit (find_mapping (key_of o.guest d) x p.records)

pub through-changes-nothing : ThroughChangesNothing
through-changes-nothing d k x =
    by-step (λ y. number y.0.answer ≡ 0 → y.1 ≡ d) d (access_by x) (λ e _. refl)
    (λ g s. unfold performed work rule in (λ h. still d s k g _ (access-same (own (config_of d.state) g) (part (config_of d.state) g (read d)) x h)))

-- SET-UP

pub refused-set-up-is-zero : RefusedSetUpIsZero
unfolding set_up
refused-set-up-is-zero c table =
    either_way Zero (not (eqb (length table) table_words)) (λ _ _. refl) (λ _. either_way Zero (not (good c)) (λ _ _. refl) (λ _ n. absurd (n refl)))
  where
    Zero : SetUp → Type 0
    Zero u = (number u.answer ≡ 0 → ⊥) → u.device ≡ record { state = zero_state; table = table }
