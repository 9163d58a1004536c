-- State and table are sound where what is no guest's part is as asked, and every guest's part is.
use Prim.Native.Nat.{ℕ, ◌+◌, ◌*◌, ◌/◌, ◌%◌, ◌≤◌, ◌<◌}
use mathlib.Core.Path.{◌≡◌, refl, sym, ap, subst, ◌∙◌}
use mathlib.Core.Bool.{Bool, true, false, cond, not, ◌&&◌, ◌||◌}
use mathlib.Core.Option.{some, none}
use mathlib.Core.Logic.{◌⊎◌, inl, inr}
use native.Mathlib.Omega.{arith}
use lib.Dec.{ltb, eqb}
use lib.ListN.{length, get_or}
use borrow.Author.Tests.{ltb-true, ltb-false}
use Rattle.laws.specs.Lists.{all?, every?, pick_by, below, tab}
use Rattle.laws.proofs.Tests.{both, both_left, both_right, or_cases, or_left, or_right, same_test}
use Rattle.laws.proofs.Filters.{all-imp, all-kept}
use Rattle.laws.proofs.Tables.{below_at, below_all, length-tab, get_d-tab, all-at}
use Rattle.laws.proofs.Owners.{all-owners, length-pick_by}
use Rattle.rules.specs.declared.State.{State}
use Rattle.rules.specs.declared.Fault.{Fault}
use Rattle.rules.specs.Sizes.{max_faults, max_lost, fault_places}
use Rattle.rules.specs.Configuration.{Config}
use Rattle.rules.specs.Table.{before, apart}
use Rattle.rules.specs.State.{Attachment, Log, Device, no_fault, config_of, attachment, attachment_at, fault_at, log_at, read}
use Rattle.rules.specs.Guests.{own, part}
use Rattle.rules.specs.Handlers.{outside}
use Rattle.rules.specs.Sound.{guest, record_good, record_passes, off_regions, record_clear, attachment_good, in_range, flag_good, fault_good, fault_zero, fault_used, fault_place_good, sound, part_tests, common_tests}
use Rattle.rules.specs.Claims.{SoundByParts}
use Rattle.rules.proofs.Records.{mine, before-guest, apart-guests, all-guests, pairwise-guests}
use Rattle.rules.proofs.Zeros.{zero-past}
use Rattle.rules.proofs.Groups.{Good, good-facts, sound-tests, Facts, part-facts, part-tests, Common, common-facts, common-tests}
use Rattle.rules.proofs.Reading.{frame-sizes, log-read, sound-whole, sound-common}

-- guest g's part is as soundness asks
abbrev pub part_good : Device → ℕ → Bool
part_good d g = every? (part_tests (own (config_of d.state) (guest g)) (part (config_of d.state) (guest g) (read d)))

module _ (d : Device) (k : Common d) (parts : (g : ℕ) → g < d.state.settings.guests → part_good d g ≡ true) where
  abbrev s : State
  s = d.state

  abbrev c : Config
  c = config_of d.state

  abbrev n : ℕ
  n = d.state.settings.guests

  good-c : Good c
  good-c = good-facts c k.frame.config

  facts : (g : ℕ) → g < n → Facts (own c (guest g)) (part c (guest g) (read d))
  facts g l =
      part-facts (own c (guest g)) (part c (guest g) (read d))
      (unfold own in good-c.narrow)
      (unfold own part in length-pick_by g c.owners (read d).attachments c.endpoints (frame-sizes d k.frame ∙ sym good-c.sizes))
      (unfold own part in all-kept (mine (guest g)) (read d).records)
      (parts g l)

  -- PLACES

  same-range : (g : ℕ) (a : Attachment) → in_range (own c (guest g)) a ≡ true → in_range (own c (guest 0)) a ≡ true
  same-range g none e = unfold in_range in refl
  same-range g (some x) e = unfold in_range own in e

  all-in-range : all? (in_range (own c (guest 0))) (read d).attachments ≡ true
  all-in-range =
      all-owners (in_range (own c (guest 0))) n c.owners (read d).attachments (frame-sizes d k.frame) (unfold config_of in good-c.owners)
      (λ g l. all-imp (in_range (own c (guest g))) (in_range (own c (guest 0))) (pick_by g c.owners (read d).attachments) (same-range g) (unfold part in (facts g l).attachments))

  in-range : (i : ℕ) → i < s.listed → in_range (own c (guest 0)) (attachment_at s i) ≡ true
  unfolding read
  in-range i l =
      subst (λ (a : Attachment). in_range (own c (guest 0)) a ≡ true) (get_d-tab s.listed (attachment_at s) i none l)
      (all-at (in_range (own c (guest 0))) (tab s.listed (attachment_at s)) i none all-in-range (rw (length-tab s.listed (attachment_at s)) l))

  attachment-good : (flag x : ℕ) → flag_good flag (record { 0 = x }) ≡ true → in_range (own c (guest 0)) (attachment flag x) ≡ true → attachment_good c flag (record { 0 = x }) ≡ true
  unfolding flag_good attachment_good in_range own
  attachment-good flag x f e = go (or_cases (eqb flag 1) _ f)
    where
      go : (eqb flag 1 ≡ true) ⊎ ((eqb flag 0 && eqb x 0) ≡ true) → ((eqb flag 1 && not (outside c.settings.domains.start c.settings.domains.end x)) || (eqb flag 0 && eqb x 0)) ≡ true
      go (inl a) = or_left (eqb flag 1 && not (outside c.settings.domains.start c.settings.domains.end x)) (eqb flag 0 && eqb x 0) (both (eqb flag 1) (not (outside c.settings.domains.start c.settings.domains.end x)) a (rw a at e))
      go (inr a) = or_right (eqb flag 1 && not (outside c.settings.domains.start c.settings.domains.end x)) (eqb flag 0 && eqb x 0) a

  -- LOGS

  log_is : (g : ℕ) → g < n → (part c (guest g) (read d)).log ≡ log_at s g
  log_is g l = unfold part in log-read d g l

  counts : (g : ℕ) → g < n → get_or s.logged g 0 ≤ max_faults
  counts g l = omega (arith, (facts g l).log.count, ap (λ (x : Log). length x.faults) (log_is g l) ∙ length-tab (get_or s.logged g 0) (λ j. fault_at s (max_faults * g + j)))

  lost : (g : ℕ) → g < n → get_or s.lost g 0 ≤ max_lost
  lost g l = omega (arith, (facts g l).log.lost, ap (λ (x : Log). x.lost) (log_is g l))

  fault-good : (i g : ℕ) → i / max_faults ≡ g → g < n → i % max_faults < get_or s.logged g 0 → fault_good (own c (guest g)) (fault_at s i) ≡ true
  fault-good i g e l u =
      subst (λ (f : Fault). fault_good (own c (guest g)) f ≡ true) (get_d-tab (get_or s.logged g 0) (λ j. fault_at s (max_faults * g + j)) (i % max_faults) no_fault u ∙ ap (λ j. fault_at s j) (omega arith))
      (all-at (fault_good (own c (guest g))) (log_at s g).faults (i % max_faults) no_fault (rw (log_is g l) at (facts g l).log.faults) (rw (length-tab (get_or s.logged g 0) (λ j. fault_at s (max_faults * g + j))) u))

  place-good : (i : ℕ) → i < fault_places → fault_place_good c s i ≡ true
  unfolding fault_place_good
  place-good i l = go (fault_used s i) refl (k.faults i l)
    where
      used : (b : Bool) → ltb (i / max_faults) n ≡ b → i % max_faults < get_or s.logged (i / max_faults) 0 → fault_good (own c (guest (i / max_faults))) (fault_at s i) ≡ true
      used true e u = fault-good i (i / max_faults) refl (ltb-true _ _ e) u
      used false e u = absurd (omega (arith, u, zero-past n s.logged (i / max_faults) k.unused.logged (ltb-false _ _ e)))

      go : (b : Bool) → fault_used s i ≡ b → (b || fault_zero (fault_at s i)) ≡ true → cond b (fault_good (own c (guest (i / max_faults))) (fault_at s i)) (fault_zero (fault_at s i)) ≡ true
      go true e f = used (ltb (i / max_faults) n) refl (ltb-true _ _ e)
      go false e f = f

  -- RECORDS

  records-pass : all? (record_passes c (read d)) (read d).records ≡ true
  records-pass =
      all-guests n (λ g. record_good (own c (guest g)) (part c (guest g) (read d)).attachments) (read d).records k.guests
      (λ g l. unfold part in (facts g l).records)

  records-clear : all? (record_clear c (read d)) (read d).records ≡ true
  records-clear =
      all-guests n (λ g. off_regions (own c (guest g)) (part c (guest g) (read d)).attachments) (read d).records k.guests
      (λ g l. unfold part in (facts g l).clear)

  pub sound-from : sound d ≡ true
  sound-from =
      sound-tests d
      (record {
        frame = k.frame;
        places = record { attachments = λ i l. attachment-good _ _ (k.flags i l) (in-range i l); counts = counts; lost = lost; unused = k.unused };
        logs = record { faults = place-good };
        records = record {
          order = pairwise-guests n before before-guest (read d).records k.guests k.upward (λ g l. unfold part in (facts g l).order);
          zeros = k.zeros;
          passing = records-pass;
          disjoint = pairwise-guests n apart apart-guests (read d).records k.guests k.upward (λ g l. unfold part in (facts g l).disjoint);
          shares = λ g l. unfold own part config_of in (facts g l).share;
        };
        reserved = record { zeros = k.regions; clear = records-clear };
      })

pub sound-by-parts : SoundByParts
sound-by-parts d =
    same_test (sound d) (every? (common_tests d) && below d.state.settings.guests (part_good d))
    (λ h.
    both (every? (common_tests d)) _ (common-tests d (sound-common d h))
    (below_all d.state.settings.guests (part_good d) (λ g l. part-tests _ _ ((sound-whole d h).parts (guest g) (unfold config_of in l)))))
    (λ h.
    sound-from d (common-facts d (both_left (every? (common_tests d)) _ h))
    (λ g l. below_at d.state.settings.guests (part_good d) g (both_right (every? (common_tests d)) _ h) l))
