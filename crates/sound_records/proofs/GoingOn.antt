-- A domain's records, one after another: what the pass says where they end, and how many are a guest's.
use Prim.Native.Nat.{ℕ, suc, ◌+◌, ◌/◌}
use mathlib.Core.Path.{◌≡◌, refl, sym, ap, ◌∙◌}
use mathlib.Core.Bool.{Bool, true, false, cond, ◌&&◌, ◌||◌}
use mathlib.Core.List.{List, [], ◌∷◌}
use native.Mathlib.Omega.{arith}
use lib.Dec.{ltb, eqb}
use lib.ListN.{length, drop}
use borrow.Author.Tests.{eqb-true, eqb-false, eq-eqb, ne_eqb, le-ltb}
use Rattle.laws.proofs.Tests.{both_left, both_right, or_right, true-false}
use Rattle.rules.specs.declared.Mapping.{Mapping}
use Rattle.rules.specs.Sizes.{domain_span}
use Rattle.rules.specs.Guests.{records_of}
use Rattle.rules.specs.Sound.{guest}
use Rattle.map_steps.specs.Forms.{run}
use Rattle.sound_records.specs.Scan.{follows, scan, opening}

-- the tests of a record that does not go on with the domain: f its own, lower and same of its key, past of its start, d of its domain
stops : (f lower same past d : Bool) → (same && (past && f)) ≡ false → (same ≡ true → lower ≡ false) → (f && ((lower || (same && past)) && (same || d))) ≡ (f && (lower && d))
stops false lower same past d h k = refl
stops true true false past d h k = refl
stops true false false past d h k = refl
stops true lower true true d h k = true-false true refl h
stops true true true false d h k = true-false true refl (k refl)
stops true false true false d h k = refl

-- and of one that does
goes : (f lower same past d : Bool) → f ≡ true → same ≡ true → past ≡ true → (f && ((lower || (same && past)) && (same || d))) ≡ true
goes f lower same past d hf hs hp = rw (hf, hs, hp, or_right lower true refl)

module _ (own form domain : Mapping → Bool) (key : ℕ) (alike : (q : Mapping) → q.key ≡ key → own q ≡ form q) where
  -- after a record of the domain the next that does not go on with it has to open another
  pub after_run : (p : Mapping) → p.key ≡ key → (l : List Mapping) → scan own domain false p l ≡ opening own domain false key (drop (run form key p.end l) l)
  unfolding follows
  after_run p e [] = refl
  after_run p e (q ∷ l) = go (eqb q.key key && (past && form q)) refl (λ k. after_run q k l)
    where
      past : Bool
      past = ltb p.end q.start

      tests : Bool
      tests = own q && ((ltb p.key q.key || (eqb p.key q.key && past)) && (eqb p.key q.key || domain q))

      same_key : q.key ≡ key → eqb p.key q.key ≡ true
      same_key k = eq-eqb p.key q.key (e ∙ sym k)

      stopped : (b : Bool) → eqb q.key key ≡ b → (b && (past && form q)) ≡ false → (eqb p.key q.key && (past && own q)) ≡ false
      stopped true k t = let j = eqb-true q.key key k in rw (same_key j, alike q j) t
      stopped false k t = rw (ne_eqb p.key q.key (λ j. eqb-false q.key key k (sym j ∙ e)))

      lower : eqb p.key q.key ≡ true → ltb p.key q.key ≡ false
      lower k = le-ltb p.key q.key (omega (arith, eqb-true p.key q.key k))

      go : (b : Bool) → (eqb q.key key && (past && form q)) ≡ b → (q.key ≡ key → scan own domain false q l ≡ opening own domain false key (drop (run form key q.end l) l))
          → (tests && scan own domain false q l) ≡ opening own domain false key (drop (cond b (suc (run form key q.end l)) 0) (q ∷ l))
      go true t again =
          let k : q.key ≡ key = eqb-true q.key key (both_left (eqb q.key key) _ t) in
          let u : (past && form q) ≡ true = both_right (eqb q.key key) _ t in
          let z : tests ≡ true = goes (own q) (ltb p.key q.key) (eqb p.key q.key) past (domain q) (alike q k ∙ both_right past (form q) u) (same_key k) (both_left past (form q) u) in
          ap (λ (b : Bool). b && scan own domain false q l) z ∙ again k
      go false t again =
          let z : tests ≡ (own q && (ltb p.key q.key && domain q)) = stops (own q) (ltb p.key q.key) (eqb p.key q.key) past (domain q) (stopped (eqb q.key key) refl t) lower in
          ap (λ (b : Bool). b && scan own domain false q l) z ∙ ap (λ (k : ℕ). (own q && (ltb k q.key && domain q)) && scan own domain false q l) e

-- the records of a run are all of one guest
module _ (form : Mapping → Bool) (key g : ℕ) where
  pub run-own : key / domain_span ≡ g → (end : ℕ) (l : List Mapping) → length (records_of (guest g) l) ≡ run form key end l + length (records_of (guest g) (drop (run form key end l) l))
  run-own e end [] = refl
  run-own e end (q ∷ l) = go (eqb q.key key && (ltb end q.start && form q)) refl (run-own e q.end l)
    where
      go : (b : Bool) → (eqb q.key key && (ltb end q.start && form q)) ≡ b → length (records_of (guest g) l) ≡ run form key q.end l + length (records_of (guest g) (drop (run form key q.end l) l))
          → length (records_of (guest g) (q ∷ l)) ≡ cond b (suc (run form key q.end l)) 0 + length (records_of (guest g) (drop (cond b (suc (run form key q.end l)) 0) (q ∷ l)))
      go true t again =
          let k : q.key ≡ key = eqb-true q.key key (both_left (eqb q.key key) _ t) in
          rw (k, eq-eqb (key / domain_span) g e) (omega arith)
      go false t again = omega arith

  pub run-other : (key / domain_span ≡ g → ⊥) → (end : ℕ) (l : List Mapping) → length (records_of (guest g) l) ≡ length (records_of (guest g) (drop (run form key end l) l))
  run-other e end [] = refl
  run-other e end (q ∷ l) = go (eqb q.key key && (ltb end q.start && form q)) refl (run-other e q.end l)
    where
      go : (b : Bool) → (eqb q.key key && (ltb end q.start && form q)) ≡ b → length (records_of (guest g) l) ≡ length (records_of (guest g) (drop (run form key q.end l) l))
          → length (records_of (guest g) (q ∷ l)) ≡ length (records_of (guest g) (drop (cond b (suc (run form key q.end l)) 0) (q ∷ l)))
      go true t again =
          let k : q.key ≡ key = eqb-true q.key key (both_left (eqb q.key key) _ t) in
          rw (k, ne_eqb (key / domain_span) g e) again
      go false t again = refl
