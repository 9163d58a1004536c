-- What is written into state and table is read back, and is sound.
use Prim.Native.Nat.{ℕ, ◌+◌, ◌*◌, ◌/◌, ◌%◌, ◌≤◌, ◌<◌}
use mathlib.Core.Path.{◌≡◌, refl, sym, ◌∙◌}
use mathlib.Core.List.{List}
use mathlib.Core.Option.{some, none}
use native.Mathlib.Omega.{arith}
use lib.ListN.{length, get_or, take}
use lib.Seq.{ext_get_or, get_or-take, length-take-le}
use Rattle.laws.specs.Lists.{tab, pad}
use Rattle.laws.proofs.Tables.{length-tab, get_d-tab, tab-is}
use Rattle.rules.specs.Sizes.{max_guests, max_endpoints, endpoint_region_words, max_faults, max_lost, fault_places}
use Rattle.rules.specs.Configuration.{Config}
use Rattle.rules.specs.State.{Attachment, World, no_fault, no_log, config_of, attachment, fault_at, log_at, read, trimmed, trimmed_regions, flag_of, number_of, log_of, fault_placed, state_of, write}
use Rattle.rules.specs.Guests.{part}
use Rattle.rules.specs.Sound.{guest}
use Rattle.rules.proofs.Groups.{Good, good-facts}
use Rattle.rules.proofs.Worlds.{Whole}
use Rattle.rules.proofs.Words.{records-table_of}

-- the configuration as a state holds it
unfoldable pub kept : Config → Config
kept c =
    record {
      settings = trimmed c.settings;
      endpoints = c.endpoints;
      owners = c.owners;
      regions = take (endpoint_region_words * length c.endpoints) (trimmed_regions (length c.endpoints) c.regions);
    }

take-pad : {A : Type 0} (n m : ℕ) (z : A) (l : List A) → length l ≡ m → m ≤ n → take m (pad n z l) ≡ l
take-pad n m z l e h =
    ext_get_or z (take m (pad n z l)) l (size ∙ sym e)
    (λ i k. get_or-take m (pad n z l) i z (rw size at k) ∙ get_d-tab n (λ j. get_or l j z) i z (omega (arith, rw size at k)))
  where
    size : length (take m (pad n z l)) ≡ m
    size = length-take-le m (pad n z l) (rw (length-tab n (λ j. get_or l j z)) h)

-- THE CONFIGURATION READ BACK

pub config-back : (c : Config) (w : World) → Good c → config_of (state_of c w) ≡ kept c
unfolding config_of state_of kept
config-back c w i =
    rw (take-pad max_endpoints (length c.endpoints) 0 c.endpoints refl i.few, take-pad max_endpoints (length c.endpoints) 0 c.owners (sym i.sizes) i.few)

-- THE WORLD READ BACK

attachment-back : (a : Attachment) → attachment (flag_of a) (number_of a) ≡ a
attachment-back none = refl
attachment-back (some d) = refl

place-guest : (g j : ℕ) → j < max_faults → (max_faults * g + j) / max_faults ≡ g
place-guest g j h = omega arith

place-fault : (g j : ℕ) → j < max_faults → (max_faults * g + j) % max_faults ≡ j
place-fault g j h = omega arith

-- the fault at a place is the one placed there
pub fault-back : (c : Config) (w : World) (i : ℕ) → i < fault_places → fault_at (state_of c w) i ≡ fault_placed w i
unfolding state_of
fault-back c w i h =
    rw (get_d-tab fault_places (λ k. (fault_placed w k).reason) i 0 h, get_d-tab fault_places (λ k. (fault_placed w k).flags) i 0 h, get_d-tab fault_places (λ k. (fault_placed w k).endpoint.0) i 0 h, get_d-tab fault_places (λ k. (fault_placed w k).address) i 0 h)

log-room : (c : Config) (w : World) → Whole c w → (g : ℕ) → g < c.settings.guests → (length (log_of w g).faults ≤ max_faults) × ((log_of w g).lost ≤ max_lost)
log-room c w h g l = unfold part in ((h.parts (guest g) l).log.count, (h.parts (guest g) l).log.lost)

pub log_back : (c : Config) (w : World) → Whole c w → (g : ℕ) → g < c.settings.guests → log_at (state_of c w) g ≡ log_of w g
log_back c w h g l = rw (count, lost, faults)
  where
    small : g < max_guests
    small = omega (arith, l, (good-facts c h.config).guests)

    count : get_or (state_of c w).logged g 0 ≡ length (log_of w g).faults
    count = unfold state_of in get_d-tab max_guests (λ k. length (log_of w k).faults) g 0 small

    lost : get_or (state_of c w).lost g 0 ≡ (log_of w g).lost
    lost = unfold state_of in get_d-tab max_guests (λ k. (log_of w k).lost) g 0 small

    here : (j : ℕ) → j < length (log_of w g).faults → j < max_faults
    here j m = omega (arith, m, log-room c w h g l)

    faults : tab (length (log_of w g).faults) (λ j. fault_at (state_of c w) (max_faults * g + j)) ≡ (log_of w g).faults
    faults =
        tab-is (length (log_of w g).faults) (λ j. fault_at (state_of c w) (max_faults * g + j)) (log_of w g).faults no_fault refl
        (λ j m. fault-back c w (max_faults * g + j) (omega (arith, small, here j m)) ∙ rw (place-guest g j (here j m), place-fault g j (here j m)))

pub read-write : (c : Config) (w : World) → Whole c w → read (write c w) ≡ w
read-write c w h = rw (atts, recs, logs)
  where
    i : Good c
    i = good-facts c h.config

    atts : (read (write c w)).attachments ≡ w.attachments
    atts = unfold read write state_of in
        tab-is (length c.endpoints) _ w.attachments none (h.attachments ∙ sym i.sizes)
        (λ k l. rw (get_d-tab max_endpoints (λ j. flag_of (get_or w.attachments j none)) k 0 (omega (arith, l, i.few)), get_d-tab max_endpoints (λ j. number_of (get_or w.attachments j none)) k 0 (omega (arith, l, i.few))) (attachment-back (get_or w.attachments k none)))

    recs : (read (write c w)).records ≡ w.records
    recs = unfold read write state_of in records-table_of w.records

    logs : (read (write c w)).logs ≡ w.logs
    logs = unfold read write in tab-is (state_of c w).settings.guests (log_at (state_of c w)) w.logs no_log (unfold state_of trimmed in h.logs) (λ g l. log_back c w h g (unfold state_of trimmed in l))
