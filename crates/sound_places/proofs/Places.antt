-- Places tested one by one, in use or zero, are what the tests of soundness ask of them.
use Prim.Native.Nat.{ℕ, ◌≤◌, ◌<◌}
use mathlib.Core.Path.{◌≡◌, refl}
use mathlib.Core.Bool.{Bool, true, false, not, ◌&&◌, ◌||◌, or-false}
use native.Mathlib.Omega.{arith}
use lib.Dec.{leb, ltb, eqb}
use lib.ListN.{length, get_or}
use mathlib.Core.List.{List, [], ◌∷◌}
use borrow.Author.Tests.{ltb-true, ltb-false, leb-true, lt-ltb, le-ltb, le-leb, eqb-true, eq-eqb}
use Rattle.laws.specs.Lists.{every?, below}
use Rattle.laws.proofs.Tests.{both, both_left, both_right, true-false, same_test, opened, closed}
use Rattle.laws.proofs.Tables.{below_at, below_all}
use Rattle.rules.specs.Sizes.{max_guests, max_endpoints, max_faults, max_lost}
use Rattle.rules.specs.declared.State.{State}
use Rattle.rules.specs.Configuration.{share, window_first, window_last}
use Rattle.rules.specs.State.{config_of, domain_at}
use Rattle.rules.specs.Sound.{attachment_good, place_tests}
use Rattle.rules.proofs.Zeros.{zero-from, zero-past}
use Rattle.rules.proofs.Groups.{Placed, place-facts, place-tests}
use Rattle.sound_places.specs.Places.{guest_good, guest_place, range_alone, endpoint_good, endpoint_place}

-- of two tests the one that applies
used : (u x y : Bool) → u ≡ true → ((u && x) || (not u && y)) ≡ true → x ≡ true
used true x y e h = rw or-false at h
used false x y e h = true-false false e refl

unused : (u x y : Bool) → u ≡ false → ((u && x) || (not u && y)) ≡ true → y ≡ true
unused true x y e h = true-false true refl e
unused false x y e h = h

either : (u x y : Bool) → (u ≡ true → x ≡ true) → (u ≡ false → y ≡ true) → ((u && x) || (not u && y)) ≡ true
either true x y f g = rw or-false (f refl)
either false x y f g = g refl

-- the lengths of a state's arrays of guests and of endpoints
pub record Arrays (s : State) : Type 0 where
  pub shares : length s.settings.shares ≡ max_guests
  pub firsts : length s.settings.firsts ≡ max_guests
  pub lasts : length s.settings.lasts ≡ max_guests
  pub logged : length s.logged ≡ max_guests
  pub lost : length s.lost ≡ max_guests
  pub endpoints : length s.endpoints ≡ max_endpoints
  pub owners : length s.owners ≡ max_endpoints
  pub attached : length s.attached ≡ max_endpoints
  pub domains : length s.domains ≡ max_endpoints

-- guest g's numbers, or those of the endpoint at place i, are all zero
record NoGuest (s : State) (g : ℕ) : Type 0 where
  shares : share s.settings g ≡ 0
  firsts : window_first s.settings g ≡ 0
  lasts : window_last s.settings g ≡ 0
  logged : get_or s.logged g 0 ≡ 0
  lost : get_or s.lost g 0 ≡ 0

record NoEndpoint (s : State) (i : ℕ) : Type 0 where
  endpoints : get_or s.endpoints i 0 ≡ 0
  owners : get_or s.owners i 0 ≡ 0
  attached : get_or s.attached i 0 ≡ 0
  domains : get_or s.domains i 0 ≡ 0

module _ (s : State) where
  -- the tests of these, as facts, and back
  abbrev guest-zeros : ℕ → List Bool
  guest-zeros g = eqb (share s.settings g) 0 ∷ eqb (window_first s.settings g) 0 ∷ eqb (window_last s.settings g) 0 ∷ eqb (get_or s.logged g 0) 0 ∷ eqb (get_or s.lost g 0) 0 ∷ []

  no-guest-facts : (g : ℕ) → every? (guest-zeros g) ≡ true → NoGuest s g
  no-guest-facts g h =
      let t = opened (guest-zeros g) h in
      record { shares = eqb-true _ 0 t.0; firsts = eqb-true _ 0 t.1.0; lasts = eqb-true _ 0 t.1.1.0; logged = eqb-true _ 0 t.1.1.1.0; lost = eqb-true _ 0 t.1.1.1.1.0 }

  no-guest-tests : (g : ℕ) → NoGuest s g → every? (guest-zeros g) ≡ true
  no-guest-tests g h = closed (guest-zeros g) (eq-eqb _ 0 h.shares, (eq-eqb _ 0 h.firsts, (eq-eqb _ 0 h.lasts, (eq-eqb _ 0 h.logged, (eq-eqb _ 0 h.lost, tt)))))

  abbrev endpoint-zeros : ℕ → List Bool
  endpoint-zeros i = eqb (get_or s.endpoints i 0) 0 ∷ eqb (get_or s.owners i 0) 0 ∷ eqb (get_or s.attached i 0) 0 ∷ eqb (get_or s.domains i 0) 0 ∷ []

  no-endpoint-facts : (i : ℕ) → every? (endpoint-zeros i) ≡ true → NoEndpoint s i
  no-endpoint-facts i h =
      let t = opened (endpoint-zeros i) h in
      record { endpoints = eqb-true _ 0 t.0; owners = eqb-true _ 0 t.1.0; attached = eqb-true _ 0 t.1.1.0; domains = eqb-true _ 0 t.1.1.1.0 }

  no-endpoint-tests : (i : ℕ) → NoEndpoint s i → every? (endpoint-zeros i) ≡ true
  no-endpoint-tests i h = closed (endpoint-zeros i) (eq-eqb _ 0 h.endpoints, (eq-eqb _ 0 h.owners, (eq-eqb _ 0 h.attached, (eq-eqb _ 0 h.domains, tt))))

module _ (s : State) (a : Arrays s) (few : s.settings.guests ≤ max_guests) (fits : s.listed ≤ max_endpoints) where
  abbrev n : ℕ
  n = s.settings.guests

  abbrev m : ℕ
  m = s.listed

  -- what each place in use is tested for
  abbrev counts : ℕ → Bool
  counts g = leb (get_or s.logged g 0) max_faults && leb (get_or s.lost g 0) max_lost

  abbrev attachment : ℕ → Bool
  attachment i = attachment_good (range_alone s.settings.domains) (get_or s.attached i 0) (domain_at s i)

  abbrev guests : ℕ → Bool
  guests = guest_place s.settings s.logged s.lost

  abbrev endpoints : ℕ → Bool
  endpoints = endpoint_place s

  -- FROM THE PLACES TO THE TESTS

  module _ (h : below max_guests guests ≡ true) where
    guest-used : (g : ℕ) → g < n → counts g ≡ true
    unfolding guest_good
    guest-used g k = used (ltb g n) (counts g) (every? (guest-zeros s g)) (lt-ltb g n k) (below_at max_guests guests g h (omega arith))

    guest-free : (g : ℕ) → n ≤ g → g < max_guests → NoGuest s g
    unfolding guest_good
    guest-free g k l = no-guest-facts s g (unused (ltb g n) (counts g) (every? (guest-zeros s g)) (le-ltb g n k) (below_at max_guests guests g h l))

  module _ (h : below max_endpoints endpoints ≡ true) where
    endpoint-used : (i : ℕ) → i < m → attachment i ≡ true
    unfolding endpoint_good
    endpoint-used i k = used (ltb i m) (attachment i) (every? (endpoint-zeros s i)) (lt-ltb i m k) (below_at max_endpoints endpoints i h (omega arith))

    endpoint-free : (i : ℕ) → m ≤ i → i < max_endpoints → NoEndpoint s i
    unfolding endpoint_good
    endpoint-free i k l = no-endpoint-facts s i (unused (ltb i m) (attachment i) (every? (endpoint-zeros s i)) (le-ltb i m k) (below_at max_endpoints endpoints i h l))

  one_by_one : below max_guests guests ≡ true → below max_endpoints endpoints ≡ true → Placed s
  unfolding attachment_good config_of
  one_by_one g e =
      record {
        attachments = endpoint-used e;
        counts = λ i k. leb-true _ _ (both_left (leb (get_or s.logged i 0) max_faults) _ (guest-used g i k));
        lost = λ i k. leb-true _ _ (both_right (leb (get_or s.logged i 0) max_faults) _ (guest-used g i k));
        unused = record {
          shares = zero-from n s.settings.shares (λ i k l. (guest-free g i k (rw a.shares at l)).shares);
          firsts = zero-from n s.settings.firsts (λ i k l. (guest-free g i k (rw a.firsts at l)).firsts);
          lasts = zero-from n s.settings.lasts (λ i k l. (guest-free g i k (rw a.lasts at l)).lasts);
          logged = zero-from n s.logged (λ i k l. (guest-free g i k (rw a.logged at l)).logged);
          lost = zero-from n s.lost (λ i k l. (guest-free g i k (rw a.lost at l)).lost);
          endpoints = zero-from m s.endpoints (λ i k l. (endpoint-free e i k (rw a.endpoints at l)).endpoints);
          owners = zero-from m s.owners (λ i k l. (endpoint-free e i k (rw a.owners at l)).owners);
          attached = zero-from m s.attached (λ i k l. (endpoint-free e i k (rw a.attached at l)).attached);
          domains = zero-from m s.domains (λ i k l. (endpoint-free e i k (rw a.domains at l)).domains);
        };
      }

  -- AND BACK

  module _ (h : Placed s) where
    guest-good : (g : ℕ) → g < max_guests → guests g ≡ true
    unfolding guest_good
    guest-good g l =
        either (ltb g n) (counts g) (every? (guest-zeros s g))
        (λ e. both _ _ (le-leb _ _ (h.counts g (ltb-true g n e))) (le-leb _ _ (h.lost g (ltb-true g n e))))
        (λ e.
        let k : n ≤ g = ltb-false g n e in
        let z = h.unused in
        no-guest-tests s g
        (record { shares = zero-past n _ g z.shares k; firsts = zero-past n _ g z.firsts k; lasts = zero-past n _ g z.lasts k; logged = zero-past n _ g z.logged k; lost = zero-past n _ g z.lost k }))

    endpoint-good : (i : ℕ) → i < max_endpoints → endpoints i ≡ true
    unfolding endpoint_good attachment_good config_of
    endpoint-good i l =
        either (ltb i m) (attachment i) (every? (endpoint-zeros s i))
        (λ e. h.attachments i (ltb-true i m e))
        (λ e.
        let k : m ≤ i = ltb-false i m e in
        let z = h.unused in
        no-endpoint-tests s i
        (record { endpoints = zero-past m _ i z.endpoints k; owners = zero-past m _ i z.owners k; attached = zero-past m _ i z.attached k; domains = zero-past m _ i z.domains k }))

  pub places-are : (below max_guests guests && below max_endpoints endpoints) ≡ every? (place_tests s)
  places-are =
      same_test (below max_guests guests && below max_endpoints endpoints) (every? (place_tests s))
      (λ h. place-tests s (one_by_one (both_left (below max_guests guests) _ h) (both_right (below max_guests guests) _ h)))
      (λ h. both _ _ (below_all max_guests guests (guest-good (place-facts s h))) (below_all max_endpoints endpoints (endpoint-good (place-facts s h))))
