-- A whole world's state and table are sound.
use Prim.Native.Nat.{ℕ, ◌/◌, ◌%◌, ◌≤◌, ◌<◌}
use mathlib.Core.Path.{◌≡◌, refl, sym, ap, subst, ◌∙◌}
use mathlib.Core.Bool.{Bool, true, false, cond, ◌||◌}
use mathlib.Core.Option.{some, none}
use native.Mathlib.Omega.{arith}
use lib.Dec.{ltb}
use lib.ListN.{length, get_or, get_or-eq_default}
use borrow.Author.Tests.{ltb-false, le-ltb}
use Rattle.laws.specs.Lists.{tab}
use Rattle.laws.proofs.Tables.{length-tab, get_d-tab}
use Rattle.rules.specs.declared.Fault.{Fault}
use Rattle.rules.specs.Sizes.{max_guests, max_endpoints, max_faults, fault_places}
use Rattle.rules.specs.Configuration.{Config, share, window_first, window_last}
use Rattle.rules.specs.State.{Attachment, World, no_fault, no_log, config_of, fault_at, trimmed, flag_of, number_of, log_of, fault_placed, state_of, write, domain_at}
use Rattle.rules.specs.Guests.{own, part}
use Rattle.rules.specs.Sound.{guest, zero_from, flag_good, fault_zero, fault_used, sound}
use Rattle.rules.proofs.Records.{before-upward}
use Rattle.rules.proofs.Groups.{Good, good-facts, Framed, Unused, RegionZeros, Common, part-tests}
use Rattle.rules.proofs.Worlds.{Whole}
use Rattle.rules.proofs.Words.{length-table_of, zero-table_of}
use Rattle.rules.proofs.Zeros.{zero-from}
use Rattle.rules.proofs.Regions.{trimmed-past, trimmed-rest}
use Rattle.rules.proofs.Shares.{fits}
use Rattle.rules.proofs.Writing.{kept, config-back, fault-back, read-write}
use Rattle.rules.proofs.Kept.{good-kept, own-kept, kept-twice, write_kept}
use Rattle.rules.proofs.Divided.{sound-from}

zero-tab : (n m : ℕ) (f : ℕ → ℕ) → ((i : ℕ) → n ≤ i → i < m → f i ≡ 0) → zero_from n (tab m f) ≡ true
zero-tab n m f h = zero-from n (tab m f) (λ i l k. let b : i < m = rw (length-tab m f) at k in get_d-tab m f i 0 b ∙ h i l b)

-- the settings' places, trimmed
zero-trimmed : (n : ℕ) (f : ℕ → ℕ) → zero_from n (tab max_guests (λ g. cond (ltb g n) (f g) 0)) ≡ true
zero-trimmed n f = zero-tab n max_guests (λ g. cond (ltb g n) (f g) 0) (λ i h k. rw (le-ltb i n h))

no-log : (c : Config) (w : World) → Whole c w → (g : ℕ) → c.settings.guests ≤ g → log_of w g ≡ no_log
no-log c w h g l = get_or-eq_default w.logs no_log (rw h.logs l)

module _ (c : Config) (w : World) (h : Whole c w) where
  good-c : Good c
  good-c = good-facts c h.config

  -- an attachment's flag and number
  written-flag : (a : Attachment) → flag_good (flag_of a) (record { 0 = number_of a }) ≡ true
  unfolding flag_good
  written-flag none = refl
  written-flag (some d) = refl

  flags-good : (i : ℕ) → i < length c.endpoints → flag_good (get_or (state_of c w).attached i 0) (domain_at (state_of c w) i) ≡ true
  unfolding state_of
  flags-good i l =
      rw (get_d-tab max_endpoints (λ j. flag_of (get_or w.attachments j none)) i 0 (omega (arith, l, good-c.few)), get_d-tab max_endpoints (λ j. number_of (get_or w.attachments j none)) i 0 (omega (arith, l, good-c.few)))
      (written-flag (get_or w.attachments i none))

  unused-zero : Unused (state_of c w)
  unfolding state_of trimmed
  unused-zero =
      record {
        shares = zero-trimmed c.settings.guests (share c.settings);
        firsts = zero-trimmed c.settings.guests (window_first c.settings);
        lasts = zero-trimmed c.settings.guests (window_last c.settings);
        logged = zero-tab c.settings.guests max_guests (λ g. length (log_of w g).faults) (λ g k m. rw (no-log c w h g k));
        lost = zero-tab c.settings.guests max_guests (λ g. (log_of w g).lost) (λ g k m. rw (no-log c w h g k));
        endpoints = zero-tab (length c.endpoints) max_endpoints (λ i. get_or c.endpoints i 0) (λ i k m. get_or-eq_default c.endpoints 0 k);
        owners = zero-tab (length c.endpoints) max_endpoints (λ i. get_or c.owners i 0) (λ i k m. get_or-eq_default c.owners 0 (rw (sym good-c.sizes) k));
        attached = zero-tab (length c.endpoints) max_endpoints (λ i. flag_of (get_or w.attachments i none)) (λ i k m. ap flag_of (get_or-eq_default w.attachments none (past i k)));
        domains = zero-tab (length c.endpoints) max_endpoints (λ i. number_of (get_or w.attachments i none)) (λ i k m. ap number_of (get_or-eq_default w.attachments none (past i k)));
      }
    where
      past : (i : ℕ) → length c.endpoints ≤ i → length w.attachments ≤ i
      past i k = omega (arith, k, h.attachments, good-c.sizes)

  regions-zero : RegionZeros (state_of c w)
  unfolding state_of
  regions-zero = record { past = trimmed-past (length c.endpoints) good-c.few c.regions; rest = trimmed-rest (length c.endpoints) good-c.few c.regions }

  used-or-zero : (i : ℕ) → i < fault_places → (fault_used (state_of c w) i || fault_zero (fault_at (state_of c w) i)) ≡ true
  used-or-zero i l =
      subst (λ (f : Fault). (fault_used (state_of c w) i || fault_zero f) ≡ true) (sym (fault-back c w i l))
      (rw count (go (ltb (i % max_faults) (length (log_of w (i / max_faults)).faults)) refl))
    where
      count : get_or (state_of c w).logged (i / max_faults) 0 ≡ length (log_of w (i / max_faults)).faults
      count = unfold state_of in get_d-tab max_guests (λ k. length (log_of w k).faults) (i / max_faults) 0 (omega arith)

      go : (b : Bool) → ltb (i % max_faults) (length (log_of w (i / max_faults)).faults) ≡ b → (b || fault_zero (fault_placed w i)) ≡ true
      go true e = refl
      go false e = rw (get_or-eq_default (log_of w (i / max_faults)).faults no_fault (ltb-false _ _ e))

  module _ (k : kept c ≡ c) where
    config : config_of (write c w).state ≡ c
    config = unfold write in (config-back c w good-c ∙ k)

    frame : Framed (write c w)
    frame =
        record {
          words = unfold write in length-table_of w.records (omega (arith, fits c w h));
          config = rw config h.config;
          listed = rw config (unfold write state_of in refl);
          live = unfold write state_of in fits c w h;
        }

    common : Common (write c w)
    common =
        record {
          frame = frame;
          guests = rw (read-write c w h) (unfold write state_of trimmed in h.guests);
          upward = rw (read-write c w h) (before-upward w.records h.order);
          zeros = unfold write state_of in zero-table_of w.records;
          flags = λ i l. unfold write in flags-good i (unfold write state_of in l);
          unused = unfold write in unused-zero;
          regions = unfold write in regions-zero;
          faults = λ i l. unfold write in used-or-zero i l;
        }

    kept-sound : sound (write c w) ≡ true
    kept-sound =
        sound-from (write c w) common
        (λ g l. rw (config, read-write c w h) (part-tests (own c (guest g)) (part c (guest g) w) (h.parts (guest g) (unfold write state_of trimmed in l))))

-- a whole world under the configuration as given is one under the configuration as the state holds it
pub whole-kept : (c : Config) (w : World) → Whole c w → Whole (kept c) w
whole-kept c w h =
    record {
      config = good-kept c h.config;
      attachments = unfold kept in h.attachments;
      logs = unfold kept trimmed in h.logs;
      guests = unfold kept trimmed in h.guests;
      order = h.order;
      disjoint = h.disjoint;
      parts = λ g l. rw (own-kept c h.config g (unfold kept trimmed in l)) (unfold kept part in h.parts g (unfold kept trimmed in l));
    }

-- the state and table of a whole world are sound
pub write-sound : (c : Config) (w : World) → Whole c w → sound (write c w) ≡ true
write-sound c w h = rw (sym (write_kept c h.config w)) (kept-sound (kept c) w (whole-kept c w h) (kept-twice c h.config))
