-- What set-up shows at its returns, and what the start state's arrays are filled with.
use Prim.Native.Nat.{ℕ, zero, suc, ◌+◌, ◌-◌, ◌/◌, ◌%◌, ◌≤◌, ◌<◌, min}
use mathlib.Core.Path.{◌≡◌, refl, sym, ap, ◌∙◌}
use mathlib.Core.Bool.{Bool, true, false, cond, not, ◌&&◌}
use mathlib.Core.List.{List, ◌++◌}
use mathlib.Core.Option.{none}
use native.Mathlib.Omega.{arith}
use lib.Dec.{ltb}
use lib.ListN.{length, get_or, take, drop, replicate, length-replicate, length-append, length-drop, get_or-append, get_or-eq_default}
use lib.Seq.{take-length, length-take-le, get_or-take, get_or-append_right, get_or-drop}
use borrow.Author.Tests.{lt-ltb, le-ltb, ltb-true, ltb-false, eq-eqb, ne_eqb}
use Rattle.laws.specs.Lists.{tab, pad}
use Rattle.laws.proofs.Tables.{length-tab, get_d-tab, tab-is, replicate-is}
use Rattle.rules.specs.declared.Settings.{Settings}
use Rattle.rules.specs.declared.State.{State}
use Rattle.rules.specs.declared.Answer.TheVariants.{Done, Refused}
use Rattle.rules.specs.declared.Refusal.TheVariants.{Unsound, BadConfiguration}
use Rattle.rules.specs.Sizes.{max_guests, max_endpoints, max_faults, fault_places, table_words}
use Rattle.rules.specs.Configuration.{good_settings, good_lists, good_regions, good}
use Rattle.rules.specs.State.{Attachment, Log, no_fault, no_log, flag_of, number_of, trimmed, trimmed_regions, state_of, start, zero_state}
use Rattle.rules.specs.Device.{set_up}
use Rattle.refinement.specs.Flat.{device}
use Rattle.refinement.specs.Setting.{configured}

-- THE PLACES

-- of an array with a place for each guest, what stands at place g with n guests in use
abbrev pub kept_of : ℕ → List ℕ → ℕ → ℕ
kept_of n l g = cond (ltb g n) (get_or l g 0) 0

-- what a list of one value holds, at every place
all_same : {A : Type 0} (n : ℕ) (z : A) (i : ℕ) → get_or (replicate n z) i z ≡ z
all_same zero z i = refl
all_same (suc n) z zero = refl
all_same (suc n) z (suc i) = all_same n z i

-- where all places from the first unused one on are set to zero
pub unused-zero : (g k : ℕ) (l z e : List ℕ) → length l ≡ max_guests → k ≡ min g max_guests → z ≡ replicate (length l - k) 0 → e ≡ drop (length l - k) (drop k l) → take k l ++ (z ++ e) ≡ tab max_guests (kept_of g l)
unused-zero g k l z e long u f d = sym (tab-is max_guests (kept_of g l) _ 0 whole (λ i h. at i h (ltb i k) refl))
  where
    front : length (take k l) ≡ k
    front = length-take-le k l (omega (arith, long, u))

    zeros-long : length z ≡ length l - k
    zeros-long = rw f (length-replicate (length l - k) 0)

    none-left : length e ≡ 0
    none-left = rw (d, length-drop (length l - k) (drop k l), length-drop k l) (omega arith)

    whole : length (take k l ++ (z ++ e)) ≡ max_guests
    whole = rw (length-append (take k l) (z ++ e), length-append z e, front, zeros-long, none-left) (omega (arith, long, u))

    at : (i : ℕ) → i < max_guests → (b : Bool) → ltb i k ≡ b → kept_of g l i ≡ get_or (take k l ++ (z ++ e)) i 0
    at i h true t =
        let j : i < k = omega (arith, ltb-true i k t) in
        rw (lt-ltb i g (omega (arith, u))) (sym (get_or-append (take k l) (z ++ e) 0 i (rw front j) ∙ get_or-take k l i 0 j))
    at i h false t =
        let j : k ≤ i = omega (arith, ltb-false i k t) in
        let zero-there : get_or (take k l ++ (z ++ e)) i 0 ≡ 0 =
        get_or-append_right (take k l) (z ++ e) i 0 (rw front j)
        ∙ get_or-append z e 0 (i - length (take k l)) (rw (front, zeros-long) (omega (arith, long)))
        ∙ rw f (all_same (length l - k) 0 (i - length (take k l))) in
        rw (le-ltb i g (omega (arith, u))) (sym zero-there)

-- a list at the first of the places, and zero after it
pub zero-after : (n k : ℕ) (xs ys : List ℕ) → k ≡ min (length xs) n → ys ≡ take k xs → ys ++ drop k (replicate n 0) ≡ pad n 0 xs
zero-after n k xs ys u f = sym (tab-is n (λ i. get_or xs i 0) _ 0 whole (λ i h. at i h (ltb i k) refl))
  where
    front : length ys ≡ k
    front = rw f (length-take-le k xs (omega (arith, u)))

    whole : length (ys ++ drop k (replicate n 0)) ≡ n
    whole = rw (length-append ys (drop k (replicate n 0)), front, length-drop {A = ℕ} k (replicate n 0), length-replicate {A = ℕ} n 0) (omega (arith, u))

    at : (i : ℕ) → i < n → (b : Bool) → ltb i k ≡ b → get_or xs i 0 ≡ get_or (ys ++ drop k (replicate n 0)) i 0
    at i h true t =
        let j : i < k = omega (arith, ltb-true i k t) in
        sym (get_or-append ys (drop k (replicate n 0)) 0 i (rw front j) ∙ rw f (get_or-take k xs i 0 j))
    at i h false t =
        let j : k ≤ i = omega (arith, ltb-false i k t) in
        let zero-there : get_or (ys ++ drop k (replicate n 0)) i 0 ≡ 0 =
        get_or-append_right ys (drop k (replicate n 0)) i 0 (rw front j)
        ∙ get_or-drop {A = ℕ} k (replicate n 0) (i - length ys) 0
        ∙ all_same {A = ℕ} n 0 (k + (i - length ys)) in
        get_or-eq_default xs 0 (omega (arith, u)) ∙ sym zero-there

-- THE START STATE

zeros : (n : ℕ) (f : ℕ → ℕ) → ((i : ℕ) → f i ≡ 0) → tab n f ≡ replicate n 0
zeros n f h = sym (replicate-is n 0 (tab n f) (length-tab n f) (λ i k. get_d-tab n f i 0 k ∙ h i))

unattached : (n m : ℕ) (f : Attachment → ℕ) → f none ≡ 0 → tab m (λ i. f (get_or (replicate n none) i none)) ≡ replicate m 0
unattached n m f e = zeros m _ (λ i. ap f (all_same n none i) ∙ e)

unlogged : (n m : ℕ) (f : ℕ → Log → ℕ) (k : ℕ → ℕ) → ((i : ℕ) → f i no_log ≡ 0) → tab m (λ i. f i (get_or (replicate n no_log) (k i) no_log)) ≡ replicate m 0
unlogged n m f k e = zeros m _ (λ i. ap (λ (x : Log). f i x) (all_same n no_log (k i)) ∙ e i)

pub start-fields : (s : Settings) (es os qs : List ℕ) (z : State) (t : Settings) (a b d : List ℕ) → z ≡ zero_state → t ≡ trimmed s → a ≡ pad max_endpoints 0 es → b ≡ pad max_endpoints 0 os → d ≡ trimmed_regions (length es) qs
    → record {
      settings = t;
      listed = length es;
      endpoints = a;
      owners = b;
      attached = z.attached;
      domains = z.domains;
      regions = d;
      live = z.live;
      logged = z.logged;
      lost = z.lost;
      reasons = z.reasons;
      flags = z.flags;
      sources = z.sources;
      addresses = z.addresses;
    }
    ≡ state_of (configured s es os qs) (start (configured s es os qs))
unfolding state_of start zero_state
start-fields s es os qs z t a b d e f g h i =
    let n = length es in
    let k = s.guests in
    rw (
      e,
      f,
      g,
      h,
      i,
      unattached n max_endpoints flag_of refl,
      unattached n max_endpoints number_of refl,
      unlogged k max_guests (λ i l. length l.faults) (λ i. i) (λ i. refl),
      unlogged k max_guests (λ i l. l.lost) (λ i. i) (λ i. refl),
      unlogged k fault_places (λ i l. (get_or l.faults (i % max_faults) no_fault).reason) (λ i. i / max_faults) (λ i. refl),
      unlogged k fault_places (λ i l. (get_or l.faults (i % max_faults) no_fault).flags) (λ i. i / max_faults) (λ i. refl),
      unlogged k fault_places (λ i l. (get_or l.faults (i % max_faults) no_fault).endpoint.0) (λ i. i / max_faults) (λ i. refl),
      unlogged k fault_places (λ i l. (get_or l.faults (i % max_faults) no_fault).address) (λ i. i / max_faults) (λ i. refl),
    )

-- SET-UP'S RETURNS

nothing : (a : Bool) → false ≡ (a && false)
nothing true = refl
nothing false = refl

module _ (s : Settings) (es os qs : List ℕ) where
  pub good-differ : (length es ≡ length os → ⊥) → false ≡ good (configured s es os qs)
  unfolding good good_lists
  good-differ n = rw (ne_eqb (length es) (length os) n) (nothing (good_settings s))

  pub good-all : length es ≡ length os → (a b d : Bool) → a ≡ good_settings s → b ≡ good_lists s (take (length es) es) (take (length es) os) → d ≡ good_regions (length es) qs
      → (a && (b && d)) ≡ good (configured s es os qs)
  unfolding good
  good-all n a b d e f g = rw (e, f, g, take-length es) (ap (λ (l : List ℕ). good_settings s && (good_lists s es l && good_regions (length es) qs)) (ap (λ k. take k os) n ∙ take-length os))

  module _ (ws : List ℕ) where
    pub set-up-length : (z : State) → (length ws ≡ table_words → ⊥) → z ≡ zero_state → record { answer = Refused Unsound; device = device z ws } ≡ set_up (configured s es os qs) ws
    unfolding set_up
    set-up-length z n e = rw (ne_eqb (length ws) table_words n, e)

    module _ (n : length ws ≡ table_words) (b : Bool) (f : b ≡ good (configured s es os qs)) where
      pub set-up-bad : (z : State) → not b ≡ true → z ≡ zero_state → record { answer = Refused BadConfiguration; device = device z ws } ≡ set_up (configured s es os qs) ws
      unfolding set_up
      set-up-bad z t e = rw (eq-eqb (length ws) table_words n, sym f, t, e)

      pub set-up-done : (r : State) (vs : List ℕ) → not b ≡ false → vs ≡ replicate (length ws) 0 → r ≡ state_of (configured s es os qs) (start (configured s es os qs)) → record { answer = Done; device = device r vs } ≡ set_up (configured s es os qs) ws
      unfolding set_up
      set-up-done r vs t x e = rw (x, n, sym f, t, e)
