-- The places of a guest's log, and those of all logs.
use Prim.Native.Nat.{ℕ, ◌+◌, ◌-◌, ◌*◌, ◌/◌, ◌%◌, ◌≤◌, min}
use mathlib.Core.Path.{◌≡◌, sym, ap, ◌∙◌}
use mathlib.Core.Bool.{Bool, ◌&&◌, and-true}
use mathlib.Core.List.{List}
use native.Mathlib.Nat.{add_assoc}
use native.Mathlib.Omega.{arith}
use lib.ListN.{length, get_or}
use borrow.Author.Tests.{lt-ltb, le-ltb}
use Rattle.laws.specs.Lists.{every?, below, pick_by, tab}
use Rattle.laws.proofs.Rounds.{below-same, below-append, below-grid}
use Rattle.rules.specs.declared.Fault.{Fault}
use Rattle.rules.specs.Sizes.{max_guests, max_endpoints, max_faults, fault_places}
use Rattle.rules.specs.declared.State.{State}
use Rattle.rules.specs.State.{config_of, fault_at}
use Rattle.rules.specs.Guests.{own}
use Rattle.rules.specs.Sound.{fault_good, fault_zero, fault_place_good, log_tests}
use Rattle.sound_logs.specs.Faults.{endpoints_alone, place_good, owner_among}
use Rattle.sound_logs.proofs.Listed.{pick-listed}

-- those in use come first, then those that are zero
pub log-split : (first count : ℕ) (es : List ℕ) (f : ℕ → Fault)
    → (below (min count max_faults) (λ j. fault_good (endpoints_alone es) (f (first + j))) && below (max_faults - min count max_faults) (λ j. fault_zero (f (first + min count max_faults + j))))
    ≡ below max_faults (λ j. place_good count es j (f (first + j)))
log-split first count es f =
    let q : ℕ → Bool = λ j. place_good count es j (f (first + j)) in
    let h = min count max_faults in
    let all : h + (max_faults - h) ≡ max_faults = omega arith in
    let used : below h q ≡ below h (λ j. fault_good (endpoints_alone es) (f (first + j))) = below-same h q _ (λ j k. rw (lt-ltb j count (omega arith))) in
    let free : below (max_faults - h) (λ j. q (h + j)) ≡ below (max_faults - h) (λ j. fault_zero (f (first + h + j))) =
    below-same (max_faults - h) (λ j. q (h + j)) _ (λ j k. rw (le-ltb (h + j) count (omega arith), ← add_assoc first h j)) in
    sym (ap (λ (n : ℕ). below n q) (sym all) ∙ below-append h (max_faults - h) q ∙ rw (used, free))

module _ (s : State) (listed : s.listed ≤ max_endpoints) (e : length s.owners ≡ max_endpoints) where
  -- guest by guest, and place by place
  pub logs-good : below max_guests (λ g. below max_faults (λ j. place_good (get_or s.logged g 0) (pick_by g (tab max_endpoints (owner_among s.listed s.owners)) s.endpoints) j (fault_at s (max_faults * g + j))))
      ≡ every? (log_tests s)
  unfolding fault_place_good fault_good config_of own
  logs-good =
      below-same max_guests _ (λ g. below max_faults (λ j. fault_place_good (config_of s) s (max_faults * g + j)))
      (λ g h.
      below-same max_faults _ _
      (λ j k.
      let row : (max_faults * g + j) / max_faults ≡ g = omega arith in
      let place : (max_faults * g + j) % max_faults ≡ j = omega arith in
      rw (row, place, pick-listed g h s.listed listed s.owners s.endpoints e)))
      ∙ below-grid max_faults max_guests (fault_place_good (config_of s) s)
      ∙ sym (and-true (below fault_places (fault_place_good (config_of s) s)))
