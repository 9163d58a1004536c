-- Sound state and table, as the code has them, are what writing their world gives.
use Prim.Native.Nat.{ℕ, ◌+◌, ◌-◌, ◌*◌, ◌/◌, ◌%◌, ◌≤◌, ◌<◌}
use mathlib.Core.Path.{◌≡◌, refl, sym, ap, ◌∙◌}
use mathlib.Core.Bool.{Bool, true, false, cond, not, ◌&&◌}
use mathlib.Core.List.{List, ◌++◌}
use mathlib.Core.Option.{none}
use mathlib.Core.Logic.{◌⊎◌, inl, inr}
use native.Mathlib.Omega.{arith}
use lib.Dec.{ltb, eqb}
use lib.ListN.{length, get_or, take, drop, replicate, length-take, length-drop, get_or-eq_default}
use lib.Seq.{get_or-take, get_or-drop, length-take-le}
use borrow.Author.Tests.{ltb-true, ltb-false, eqb-true, le-ltb}
use Rattle.laws.specs.Lists.{tab, pad}
use Rattle.laws.proofs.Tests.{both_left, both_right, or_cases}
use Rattle.laws.proofs.Tables.{length-tab, get_d-tab, tab-is, replicate-is}
use Rattle.rules.specs.declared.State.{State}
use Rattle.rules.specs.declared.Fault.{Fault}
use Rattle.rules.specs.Sizes.{max_guests, max_endpoints, endpoint_region_words, record_words, table_words, max_faults, fault_places}
use Rattle.rules.specs.Table.{records, words, table_of}
use Rattle.rules.specs.State.{Lengths, Log, Device, no_fault, no_log, config_of, attachment, attachment_at, domain_at, fault_at, log_at, read, trimmed, trimmed_regions, flag_of, number_of, state_of}
use Rattle.rules.specs.Handlers.{outside}
use Rattle.rules.specs.Sound.{attachment_good, zero_from, fault_zero, fault_place_good, sound}
use Rattle.rules.proofs.Words.{length-records, words-split}
use Rattle.rules.proofs.Zeros.{zero-at}
use Rattle.rules.proofs.Regions.{trimmed-back}
use Rattle.rules.proofs.Groups.{Unused, Sound, sound-facts}
use Rattle.rules.proofs.Reading.{sound-good, sound-listed}

-- a list by index with zero past n is the list that is zero there
kept-until : (m n : ℕ) (l : List ℕ) → length l ≡ m → zero_from n l ≡ true → tab m (λ g. cond (ltb g n) (get_or l g 0) 0) ≡ l
kept-until m n l e h = tab-is m _ l 0 e (λ i k. go i k (ltb i n) refl)
  where
    go : (i : ℕ) → i < m → (b : Bool) → ltb i n ≡ b → cond b (get_or l i 0) 0 ≡ get_or l i 0
    go i k true x = refl
    go i k false x = sym (zero-at n l i h (ltb-false i n x) (rw e k))

padded : (m n : ℕ) (l : List ℕ) → length l ≡ m → zero_from n l ≡ true → pad m 0 (take n l) ≡ l
padded m n l e h = tab-is m _ l 0 e (λ i k. go i k (ltb i n) refl)
  where
    go : (i : ℕ) → i < m → (b : Bool) → ltb i n ≡ b → get_or (take n l) i 0 ≡ get_or l i 0
    go i k true x = get_or-take n l i 0 (ltb-true i n x)
    go i k false x = get_or-eq_default (take n l) 0 (rw length-take (omega (arith, ltb-false i n x))) ∙ sym (zero-at n l i h (ltb-false i n x) (rw e k))

-- by index, a list of n values with a number read off each, zero past them
read_off : {A : Type 0} (m n : ℕ) (f : ℕ → A) (z : A) (q : A → ℕ) (l : List ℕ) → length l ≡ m → zero_from n l ≡ true → q z ≡ 0 → ((i : ℕ) → i < n → q (f i) ≡ get_or l i 0) → tab m (λ i. q (get_or (tab n f) i z)) ≡ l
read_off m n f z q l e h qz s = tab-is m _ l 0 e (λ i k. go i k (ltb i n) refl)
  where
    go : (i : ℕ) → i < m → (b : Bool) → ltb i n ≡ b → q (get_or (tab n f) i z) ≡ get_or l i 0
    go i k true x = ap q (get_d-tab n f i z (ltb-true i n x)) ∙ s i (ltb-true i n x)
    go i k false x = ap q (get_or-eq_default (tab n f) z (rw (length-tab n f) (ltb-false i n x))) ∙ qz ∙ sym (zero-at n l i h (ltb-false i n x) (rw e k))

module _ (d : Device) (h : sound d ≡ true) (k : Lengths d.state) where
  abbrev s : State
  s = d.state

  facts : Sound d
  facts = sound-facts d h

  unused : Unused d.state
  unused = facts.places.unused

  pub settings-back : trimmed s.settings ≡ s.settings
  settings-back =
      unfold trimmed in
      rw (kept-until max_guests s.settings.guests s.settings.shares k.shares unused.shares, kept-until max_guests s.settings.guests s.settings.firsts k.firsts unused.firsts, kept-until max_guests s.settings.guests s.settings.lasts k.lasts unused.lasts)

  pub small_count : s.listed ≤ max_endpoints
  small_count = omega (arith, sound-listed d h, (sound-good d h).few)

  flag-of : (flag n : ℕ) → attachment_good (config_of s) flag (record { 0 = n }) ≡ true → (flag_of (attachment flag n) ≡ flag) × (number_of (attachment flag n) ≡ n)
  unfolding attachment_good
  flag-of flag n g = go (or_cases _ _ g)
    where
      go : ((eqb flag 1 && not (outside (config_of s).settings.domains.start (config_of s).settings.domains.end n)) ≡ true) ⊎ ((eqb flag 0 && eqb n 0) ≡ true) → (flag_of (attachment flag n) ≡ flag) × (number_of (attachment flag n) ≡ n)
      go (inl a) = let e = both_left (eqb flag 1) _ a in let one = eqb-true flag 1 e in (rw one, rw one)
      go (inr a) =
          let none-flag = eqb-true flag 0 (both_left (eqb flag 0) _ a) in
          let none-domain = eqb-true n 0 (both_right (eqb flag 0) _ a) in
          (rw (none-flag), rw (none-flag, none-domain))

  at_listed : (i : ℕ) → i < s.listed → attachment_good (config_of s) (get_or s.attached i 0) (domain_at s i) ≡ true
  at_listed i l = facts.places.attachments i l

  attached-back : tab max_endpoints (λ i. flag_of (get_or (tab s.listed (attachment_at s)) i none)) ≡ s.attached
  attached-back = read_off max_endpoints s.listed (attachment_at s) none flag_of s.attached k.attached unused.attached refl (λ i l. (flag-of _ _ (at_listed i l)).0)

  domains-back : tab max_endpoints (λ i. number_of (get_or (tab s.listed (attachment_at s)) i none)) ≡ s.domains
  domains-back = read_off max_endpoints s.listed (attachment_at s) none number_of s.domains k.domains unused.domains refl (λ i l. (flag-of _ _ (at_listed i l)).1)

  logged-back : tab max_guests (λ g. length (get_or (tab s.settings.guests (log_at s)) g no_log).faults) ≡ s.logged
  logged-back = read_off max_guests s.settings.guests (log_at s) no_log (λ l. length l.faults) s.logged k.logged unused.logged refl (λ i l. length-tab (get_or s.logged i 0) (λ j. fault_at s (max_faults * i + j)))

  lost-back : tab max_guests (λ g. (get_or (tab s.settings.guests (log_at s)) g no_log).lost) ≡ s.lost
  lost-back = read_off max_guests s.settings.guests (log_at s) no_log (λ l. l.lost) s.lost k.lost unused.lost refl (λ i l. refl)

  -- the fault placed at i is the one that stands there
  place-good : (i : ℕ) → i < fault_places → fault_place_good (config_of s) s i ≡ true
  place-good i l = facts.logs.faults i l

  zero-fault : (f : Fault) → fault_zero f ≡ true → f ≡ no_fault
  zero-fault f z =
      let a = both_left (eqb f.reason 0 && eqb f.flags 0) _ z in
      let b = both_right (eqb f.reason 0 && eqb f.flags 0) _ z in
      rw (eqb-true f.reason 0 (both_left _ _ a), eqb-true f.flags 0 (both_right (eqb f.reason 0) _ a), eqb-true f.endpoint.0 0 (both_left (eqb f.endpoint.0 0) _ b), eqb-true f.address 0 (both_right (eqb f.endpoint.0 0) _ b))

  -- a place past the log's count holds no fault
  past-count : (i : ℕ) → i < fault_places → get_or s.logged (i / max_faults) 0 ≤ i % max_faults → fault_at s i ≡ no_fault
  past-count i l p = zero-fault (fault_at s i) (unfold fault_place_good in (rw (le-ltb (i % max_faults) (get_or s.logged (i / max_faults) 0) p) at (place-good i l)))

  placed-back : (i : ℕ) → i < fault_places → get_or (get_or (tab s.settings.guests (log_at s)) (i / max_faults) no_log).faults (i % max_faults) no_fault ≡ fault_at s i
  placed-back i l = go (ltb (i / max_faults) s.settings.guests) refl
    where
      g : ℕ
      g = i / max_faults

      whole-place : max_faults * (i / max_faults) + i % max_faults ≡ i
      whole-place = omega arith

      held : (b : Bool) → ltb (i % max_faults) (get_or s.logged (i / max_faults) 0) ≡ b → get_or (tab (get_or s.logged (i / max_faults) 0) (λ j. fault_at s (max_faults * (i / max_faults) + j))) (i % max_faults) no_fault ≡ fault_at s i
      held true x = get_d-tab (get_or s.logged (i / max_faults) 0) (λ j. fault_at s (max_faults * (i / max_faults) + j)) (i % max_faults) no_fault (ltb-true _ _ x) ∙ ap (λ (n : ℕ). fault_at s n) whole-place
      held false x =
          get_or-eq_default (tab (get_or s.logged (i / max_faults) 0) (λ j. fault_at s (max_faults * (i / max_faults) + j))) no_fault (rw (length-tab (get_or s.logged (i / max_faults) 0) (λ j. fault_at s (max_faults * (i / max_faults) + j))) (ltb-false _ _ x))
          ∙ sym (past-count i l (ltb-false _ _ x))

      go : (b : Bool) → ltb (i / max_faults) s.settings.guests ≡ b → get_or (get_or (tab s.settings.guests (log_at s)) (i / max_faults) no_log).faults (i % max_faults) no_fault ≡ fault_at s i
      go true x = ap (λ (q : Log). get_or q.faults (i % max_faults) no_fault) (get_d-tab s.settings.guests (log_at s) (i / max_faults) no_log (ltb-true _ _ x)) ∙ held (ltb (i % max_faults) (get_or s.logged (i / max_faults) 0)) refl
      go false x =
          ap (λ (q : Log). get_or q.faults (i % max_faults) no_fault) (get_or-eq_default (tab s.settings.guests (log_at s)) no_log (rw (length-tab s.settings.guests (log_at s)) (ltb-false _ _ x)))
          ∙ sym (past-count i l (omega (arith, zero-at s.settings.guests s.logged (i / max_faults) unused.logged (ltb-false _ _ x) (rw k.logged (omega arith)))))

  faults-back : (q : Fault → ℕ) (l : List ℕ) → length l ≡ fault_places → ((i : ℕ) → q (fault_at s i) ≡ get_or l i 0) → tab fault_places (λ i. q (get_or (get_or (tab s.settings.guests (log_at s)) (i / max_faults) no_log).faults (i % max_faults) no_fault)) ≡ l
  faults-back q l e f = tab-is fault_places _ l 0 e (λ i m. ap q (placed-back i m) ∙ f i)

  live_back : length (take s.live (records d.table)) ≡ s.live
  live_back = length-take-le s.live (records d.table) (rw (length-records d.table, facts.frame.words) facts.frame.live)

  pub listed_back : length (take s.listed s.endpoints) ≡ s.listed
  listed_back = unfold config_of in sound-listed d h

  pub regions-back : trimmed_regions s.listed (take (endpoint_region_words * s.listed) s.regions) ≡ s.regions
  regions-back = trimmed-back s.listed s.regions k.regions facts.reserved.zeros.past facts.reserved.zeros.rest

  -- the state and the table written back are those that were read
  pub state-back : state_of (config_of d.state) (read d) ≡ d.state
  state-back =
      unfold state_of config_of read in
      rw (
        settings-back,
        listed_back,
        padded max_endpoints s.listed s.endpoints k.endpoints unused.endpoints,
        padded max_endpoints s.listed s.owners k.owners unused.owners,
        attached-back,
        domains-back,
        regions-back,
        live_back,
        logged-back,
        lost-back,
        faults-back (λ f. f.reason) s.reasons k.reasons (λ i. refl),
        faults-back (λ f. f.flags) s.flags k.flags (λ i. refl),
        faults-back (λ f. f.endpoint.0) s.sources k.sources (λ i. refl),
        faults-back (λ f. f.address) s.addresses k.addresses (λ i. refl),
      )

  zeros-after : drop (record_words * s.live) d.table ≡ replicate (table_words - record_words * s.live) 0
  zeros-after =
      sym (replicate-is (table_words - record_words * s.live) 0 (drop (record_words * s.live) d.table) size
      (λ i l. get_or-drop (record_words * s.live) d.table i 0 ∙ zero-at (record_words * s.live) d.table (record_words * s.live + i) facts.records.zeros (omega arith) (omega (arith, l, facts.frame.words))))
    where
      size : length (drop (record_words * s.live) d.table) ≡ table_words - record_words * s.live
      size = simp length-drop (omega (arith, facts.frame.words))

  pub table-back : table_of (read d).records ≡ d.table
  table-back =
      unfold table_of read in
      (rw live_back (ap (λ (z : List ℕ). words (take s.live (records d.table)) ++ z) (sym zeros-after) ∙ words-split s.live d.table (omega (arith, facts.frame.words, facts.frame.live))))
