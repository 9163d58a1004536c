-- The order of records, a record put in, and one guest's records taken out and put back.
use Prim.Native.Nat.{ℕ, suc, ◌+◌, ◌*◌, ◌/◌, ◌%◌, ◌≤◌, ◌<◌}
use mathlib.Core.Path.{◌≡◌, refl, sym, ap, ◌∙◌}
use mathlib.Core.Bool.{Bool, true, false, cond, not, ◌&&◌}
use mathlib.Core.List.{List, [], ◌∷◌, ◌++◌, append-nil}
use mathlib.Core.Logic.{◌⊎◌, inl, inr}
use native.Mathlib.Omega.{arith}
use lib.Dec.{leb, ltb, eqb}
use lib.ListN.{length}
use borrow.Author.Tests.{ltb-true, ltb-false, eqb-true, eqb-false, eq-eqb, ne_eqb, lt-ltb, leb-true, le-leb}
use Rattle.laws.specs.Lists.{all?, keep, pairwise}
use Rattle.laws.proofs.Tests.{both, both_left, both_right, true-false, or_cases, or_right, same_test}
use Rattle.laws.proofs.Filters.{all-imp, all_append, all_keep, all-kept, keep_all, keep-none, keep_append, keep-keep, pairwise-keep, pairwise_append}
use Rattle.rules.specs.declared.Guest.{Guest}
use Rattle.rules.specs.declared.Mapping.{Mapping}
use Rattle.rules.specs.Sizes.{domain_span}
use Rattle.rules.specs.Table.{guest_of, before, overlap, apart, insert_mapping}
use Rattle.rules.specs.Guests.{records_of, with_records_of}
use Rattle.rules.specs.Sound.{guest}

-- the key names its guest and its domain
pub key-guest : (g d : ℕ) → d < domain_span → (g * domain_span + d) / domain_span ≡ g
key-guest g d h = omega arith

pub key-domain : (g d : ℕ) → d < domain_span → (g * domain_span + d) % domain_span ≡ d
key-domain g d h = omega arith

pub key_back : (k : ℕ) → (k / domain_span) * domain_span + k % domain_span ≡ k
key_back k = omega arith

-- the order
pub before-cases : (r s : Mapping) → before r s ≡ true → (r.key < s.key) ⊎ ((r.key ≡ s.key) × (r.start < s.start))
unfolding before
before-cases r s h = go (or_cases (ltb r.key s.key) (eqb r.key s.key && ltb r.start s.start) h)
  where
    go : (ltb r.key s.key ≡ true) ⊎ ((eqb r.key s.key && ltb r.start s.start) ≡ true) → (r.key < s.key) ⊎ ((r.key ≡ s.key) × (r.start < s.start))
    go (inl e) = inl (ltb-true r.key s.key e)
    go (inr e) = inr (eqb-true r.key s.key (both_left (eqb r.key s.key) _ e), ltb-true r.start s.start (both_right (eqb r.key s.key) _ e))

pub before-lower : (r s : Mapping) → r.key < s.key → before r s ≡ true
unfolding before
before-lower r s h = rw (lt-ltb r.key s.key h)

pub before_same : (r s : Mapping) → r.key ≡ s.key → r.start < s.start → before r s ≡ true
unfolding before
before_same r s e h = or_right (ltb r.key s.key) _ (rw (eq-eqb r.key s.key e, lt-ltb r.start s.start h))

pub before-trans : (r s t : Mapping) → before r s ≡ true → before s t ≡ true → before r t ≡ true
before-trans r s t h k = go (before-cases r s h) (before-cases s t k)
  where
    go : (r.key < s.key) ⊎ ((r.key ≡ s.key) × (r.start < s.start)) → (s.key < t.key) ⊎ ((s.key ≡ t.key) × (s.start < t.start)) → before r t ≡ true
    go (inl a) (inl b) = before-lower r t (omega arith)
    go (inl a) (inr b) = before-lower r t (omega arith)
    go (inr a) (inl b) = before-lower r t (omega arith)
    go (inr a) (inr b) = before_same r t (omega arith) (omega arith)

-- records of two guests are in the guests' order, and never overlap
pub before-guest : (r s : Mapping) → guest_of r < guest_of s → before r s ≡ true
before-guest r s h = before-lower r s (omega arith)

-- the record's range is not empty
unfoldable pub wide : Mapping → Bool
wide r = ltb r.start r.end

pub overlap-sym : (r s : Mapping) → not (overlap r s) ≡ true → not (overlap s r) ≡ true
unfolding overlap
overlap-sym r s h = go (eqb r.key s.key) refl (leb r.start s.end) (leb s.start r.end) h
  where
    go : (a : Bool) → eqb r.key s.key ≡ a → (b c : Bool) → not (a && (b && c)) ≡ true → not (eqb s.key r.key && (c && b)) ≡ true
    go true e true true h = true-false true refl (sym h)
    go true e true false h = rw (eq-eqb s.key r.key (sym (eqb-true r.key s.key e)))
    go true e false true h = rw (eq-eqb s.key r.key (sym (eqb-true r.key s.key e)))
    go true e false false h = rw (eq-eqb s.key r.key (sym (eqb-true r.key s.key e)))
    go false e b c h = rw (ne_eqb s.key r.key (λ q. eqb-false r.key s.key e (sym q)))

-- of two records that do not overlap, one is before the other
pub before-other : (r s : Mapping) → wide r ≡ true → wide s ≡ true → not (overlap r s) ≡ true → before r s ≡ false → before s r ≡ true
unfolding overlap wide
before-other r s wr ws m n = go (ltb s.key r.key) refl (ltb r.key s.key) refl (ltb s.start r.start) refl (ltb r.start s.start) refl
  where
    go : (a : Bool) → ltb s.key r.key ≡ a → (b : Bool) → ltb r.key s.key ≡ b → (c : Bool) → ltb s.start r.start ≡ c → (d : Bool) → ltb r.start s.start ≡ d → before s r ≡ true
    go true ea b eb c ec d ed = before-lower s r (omega (arith, ltb-true))
    go false ea true eb c ec d ed = true-false (before r s) (before-lower r s (omega (arith, ltb-true))) n
    go false ea false eb true ec d ed = before_same s r (omega (arith, ltb-false)) (omega (arith, ltb-true))
    go false ea false eb false ec true ed = true-false (before r s) (before_same r s (omega (arith, ltb-false)) (omega (arith, ltb-true))) n
    go false ea false eb false ec false ed =
        true-false true refl
        (sym (rw (eq-eqb r.key s.key (omega (arith, ltb-false)), le-leb r.start s.end (omega (arith, ltb-false, ltb-true)), le-leb s.start r.end (omega (arith, ltb-false, ltb-true))) at m))

-- a record put in
pub all_insert : (q : Mapping → Bool) (r : Mapping) (l : List Mapping) → q r ≡ true → all? q l ≡ true → all? q (insert_mapping r l) ≡ true
all_insert q r [] h k = rw h
all_insert q r (s ∷ l) h k = go (before r s) (all_insert q r l h (both_right (q s) (all? q l) k))
  where
    go : (b : Bool) → all? q (insert_mapping r l) ≡ true → all? q (cond b (r ∷ s ∷ l) (s ∷ insert_mapping r l)) ≡ true
    go true ih = both (q r) (all? q (s ∷ l)) h k
    go false ih = both (q s) (all? q (insert_mapping r l)) (both_left (q s) (all? q l) k) ih

pub length-insert : (r : Mapping) (l : List Mapping) → length (insert_mapping r l) ≡ suc (length l)
length-insert r [] = refl
length-insert r (s ∷ l) = go (before r s) (length-insert r l)
  where
    go : (b : Bool) → length (insert_mapping r l) ≡ suc (length l) → length (cond b (r ∷ s ∷ l) (s ∷ insert_mapping r l)) ≡ suc (suc (length l))
    go true ih = refl
    go false ih = ap suc ih

pub insert-ordered : (r : Mapping) (l : List Mapping) → wide r ≡ true → all? wide l ≡ true → all? (apart r) l ≡ true → pairwise before l ≡ true → pairwise before (insert_mapping r l) ≡ true
insert-ordered r [] wr wl m h = refl
insert-ordered r (s ∷ l) wr wl m h =
    go (before r s) refl (insert-ordered r l wr (both_right (wide s) (all? wide l) wl) (both_right (apart r s) (all? (apart r) l) m) (both_right (all? (before s) l) (pairwise before l) h))
  where
    go : (b : Bool) → before r s ≡ b → pairwise before (insert_mapping r l) ≡ true → pairwise before (cond b (r ∷ s ∷ l) (s ∷ insert_mapping r l)) ≡ true
    go true e ih =
        both (all? (before r) (s ∷ l)) (pairwise before (s ∷ l))
        (both (before r s) (all? (before r) l) e (all-imp (before s) (before r) l (λ t k. before-trans r s t e k) (both_left (all? (before s) l) (pairwise before l) h)))
        h
    go false e ih =
        both (all? (before s) (insert_mapping r l)) (pairwise before (insert_mapping r l))
        (all_insert (before s) r l (before-other r s wr (both_left (wide s) (all? wide l) wl) (both_left (apart r s) (all? (apart r) l) m) e) (both_left (all? (before s) l) (pairwise before l) h))
        ih

pub insert-apart : (r : Mapping) (l : List Mapping) → all? (apart r) l ≡ true → pairwise apart l ≡ true → pairwise apart (insert_mapping r l) ≡ true
insert-apart r [] m h = refl
insert-apart r (s ∷ l) m h =
    go (before r s) (insert-apart r l (both_right (apart r s) (all? (apart r) l) m) (both_right (all? (apart s) l) (pairwise apart l) h))
  where
    go : (b : Bool) → pairwise apart (insert_mapping r l) ≡ true → pairwise apart (cond b (r ∷ s ∷ l) (s ∷ insert_mapping r l)) ≡ true
    go true ih = both (all? (apart r) (s ∷ l)) (pairwise apart (s ∷ l)) m h
    go false ih =
        both (all? (apart s) (insert_mapping r l)) (pairwise apart (insert_mapping r l))
        (all_insert (apart s) r l (overlap-sym r s (both_left (apart r s) (all? (apart r) l) m)) (both_left (all? (apart s) l) (pairwise apart l) h))
        ih

-- ONE GUEST'S RECORDS

abbrev pub mine : Guest → Mapping → Bool
mine g r = eqb (guest_of r) g.0

-- a filter by guest of a filter by guest
narrowed : (k q : ℕ → Bool) (l : List Mapping) → ((n : ℕ) → q n ≡ true → k n ≡ true) → keep (λ r. q (guest_of r)) (keep (λ r. k (guest_of r)) l) ≡ keep (λ r. q (guest_of r)) l
narrowed k q l f = keep-keep (λ r. q (guest_of r)) (λ r. k (guest_of r)) (λ r. q (guest_of r)) l (λ r. same_test (k (guest_of r) && q (guest_of r)) (q (guest_of r)) (λ h. both_right (k (guest_of r)) (q (guest_of r)) h) (λ h. both (k (guest_of r)) (q (guest_of r)) (f (guest_of r) h) h))

emptied : (k q : ℕ → Bool) (l : List Mapping) → ((n : ℕ) → k n ≡ true → q n ≡ false) → keep (λ r. q (guest_of r)) (keep (λ r. k (guest_of r)) l) ≡ []
emptied k q l f =
    keep-none (λ r. q (guest_of r)) (keep (λ r. k (guest_of r)) l)
    (all-imp (λ r. k (guest_of r)) (λ r. not (q (guest_of r))) (keep (λ r. k (guest_of r)) l) (λ r h. rw (f (guest_of r) h)) (all-kept (λ r. k (guest_of r)) l))

pub records-back : (g : Guest) (p l : List Mapping) → all? (mine g) p ≡ true → records_of g (with_records_of g p l) ≡ p
unfolding with_records_of
records-back g p l h =
    rw (
      keep_append (mine g),
      keep_append (mine g),
      keep_all (mine g) p h,
      emptied (λ n. ltb n g.0) (λ n. eqb n g.0) l (λ n k. ne_eqb n g.0 (λ e. omega (arith, ltb-true n g.0 k))),
      emptied (λ n. ltb g.0 n) (λ n. eqb n g.0) l (λ n k. ne_eqb n g.0 (λ e. omega (arith, ltb-true g.0 n k))),
    )
    (append-nil p)

pub records-other : (g h : Guest) (p l : List Mapping) → (h.0 ≡ g.0 → ⊥) → all? (mine g) p ≡ true → records_of h (with_records_of g p l) ≡ records_of h l
unfolding with_records_of
records-other g h p l n m =
    rw (keep_append (mine h), keep_append (mine h), keep-none (mine h) p (all-imp (mine g) (λ r. not (mine h r)) p (λ r e. rw (ne_eqb (guest_of r) h.0 (λ q. n (sym q ∙ eqb-true (guest_of r) g.0 e)))) m))
    (go (ltb h.0 g.0) refl)
  where
    go : (b : Bool) → ltb h.0 g.0 ≡ b → keep (mine h) (keep (λ r. ltb (guest_of r) g.0) l) ++ keep (mine h) (keep (λ r. ltb g.0 (guest_of r)) l) ≡ keep (mine h) l
    go true e =
        rw (
          narrowed (λ k. ltb k g.0) (λ k. eqb k h.0) l (λ k q. lt-ltb k g.0 (omega (arith, eqb-true k h.0 q, ltb-true h.0 g.0 e))),
          emptied (λ k. ltb g.0 k) (λ k. eqb k h.0) l (λ k q. ne_eqb k h.0 (λ x. omega (arith, ltb-true g.0 k q, ltb-true h.0 g.0 e))),
        )
        (append-nil (keep (mine h) l))
    go false e =
        rw (
          emptied (λ k. ltb k g.0) (λ k. eqb k h.0) l (λ k q. ne_eqb k h.0 (λ x. omega (arith, ltb-true k g.0 q, ltb-false h.0 g.0 e))),
          narrowed (λ k. ltb g.0 k) (λ k. eqb k h.0) l (λ k q. lt-ltb g.0 k (omega (arith, eqb-true k h.0 q, ltb-false h.0 g.0 e))),
        )

pub all-with : (q : Mapping → Bool) (g : Guest) (p l : List Mapping) → all? q p ≡ true → all? q l ≡ true → all? q (with_records_of g p l) ≡ true
unfolding with_records_of
all-with q g p l hp h =
    all_append q (keep (λ r. ltb (guest_of r) g.0) l) (p ++ keep (λ r. ltb g.0 (guest_of r)) l)
    (all_keep q (λ r. ltb (guest_of r) g.0) q l (λ x e f. f) h)
    (all_append q p (keep (λ r. ltb g.0 (guest_of r)) l) hp (all_keep q (λ r. ltb g.0 (guest_of r)) q l (λ x e f. f) h))

-- a test of pairs that any two records of two guests, in the guests' order, pass
pub pairwise-with : (q : Mapping → Mapping → Bool) → ((r s : Mapping) → guest_of r < guest_of s → q r s ≡ true)
    → (g : Guest) (p l : List Mapping) → all? (mine g) p ≡ true → pairwise q p ≡ true → pairwise q l ≡ true → pairwise q (with_records_of g p l) ≡ true
unfolding with_records_of
pairwise-with q f g p l m hp h =
    pairwise_append q lows (p ++ highs) (pairwise-keep q (λ r. ltb (guest_of r) g.0) l h)
    (pairwise_append q p highs hp (pairwise-keep q (λ r. ltb g.0 (guest_of r)) l h)
    (all-imp (mine g) (λ r. all? (q r) highs) p (λ r e. higher r (λ n k. omega (arith, eqb-true (guest_of r) g.0 e, ltb-true g.0 n k))) m))
    (all-imp (λ r. ltb (guest_of r) g.0) (λ r. all? (q r) (p ++ highs)) lows
    (λ r e. all_append (q r) p highs
    (all-imp (mine g) (q r) p (λ s k. f r s (omega (arith, ltb-true (guest_of r) g.0 e, eqb-true (guest_of s) g.0 k))) m)
    (higher r (λ n k. omega (arith, ltb-true (guest_of r) g.0 e, ltb-true g.0 n k))))
    (all-kept (λ r. ltb (guest_of r) g.0) l))
  where
    lows : List Mapping
    lows = keep (λ r. ltb (guest_of r) g.0) l

    highs : List Mapping
    highs = keep (λ r. ltb g.0 (guest_of r)) l

    higher : (r : Mapping) → ((n : ℕ) → ltb g.0 n ≡ true → guest_of r < n) → all? (q r) highs ≡ true
    higher r k = all-imp (λ s. ltb g.0 (guest_of s)) (q r) highs (λ s e. f r s (k (guest_of s) e)) (all-kept (λ s. ltb g.0 (guest_of s)) l)

-- records of two guests never overlap
pub apart-guests : (r s : Mapping) → guest_of r < guest_of s → apart r s ≡ true
unfolding overlap
apart-guests r s h = rw (ne_eqb r.key s.key (λ e. omega arith))

-- RECORDS GUEST BY GUEST

module _ (n : ℕ) where
  -- what each guest's records pass, all records pass
  pub all-guests : (q : ℕ → Mapping → Bool) (l : List Mapping) → all? (λ r. ltb (guest_of r) n) l ≡ true → ((g : ℕ) → g < n → all? (q g) (records_of (guest g) l) ≡ true) → all? (λ r. q (guest_of r) r) l ≡ true
  all-guests q [] h f = refl
  all-guests q (r ∷ l) h f =
      both (q (guest_of r) r) (all? (λ s. q (guest_of s) s) l)
      (both_left (q (guest_of r) r) (all? (q (guest_of r)) (records_of (guest (guest_of r)) l)) (rw (eq-eqb (guest_of r) (guest_of r) refl) at (f (guest_of r) (ltb-true (guest_of r) n (both_left (ltb (guest_of r) n) _ h)))))
      (all-guests q l (both_right (ltb (guest_of r) n) _ h) (λ g m. go g (eqb (guest_of r) g) (f g m)))
    where
      go : (g : ℕ) (b : Bool) → all? (q g) (cond b (r ∷ records_of (guest g) l) (records_of (guest g) l)) ≡ true → all? (q g) (records_of (guest g) l) ≡ true
      go g true k = both_right (q g r) _ k
      go g false k = k

  -- and a test of pairs that any two records of two guests, in the guests' order, pass
  module _ (q : Mapping → Mapping → Bool) (across : (r s : Mapping) → guest_of r < guest_of s → q r s ≡ true) where
    own_first : (r : Mapping) (l : List Mapping) → all? (λ s. leb (guest_of r) (guest_of s)) l ≡ true → all? (q r) (records_of (guest (guest_of r)) l) ≡ true → all? (q r) l ≡ true
    own_first r [] u h = refl
    own_first r (s ∷ l) u h = go (eqb (guest_of s) (guest_of r)) refl h (λ k. own_first r l (both_right (leb (guest_of r) (guest_of s)) _ u) k)
      where
        go : (b : Bool) → eqb (guest_of s) (guest_of r) ≡ b → all? (q r) (cond b (s ∷ records_of (guest (guest_of r)) l) (records_of (guest (guest_of r)) l)) ≡ true
            → (all? (q r) (records_of (guest (guest_of r)) l) ≡ true → all? (q r) l ≡ true) → (q r s && all? (q r) l) ≡ true
        go true e k i = both (q r s) (all? (q r) l) (both_left (q r s) _ k) (i (both_right (q r s) _ k))
        go false e k i =
            let other : guest_of s ≡ guest_of r → ⊥ = eqb-false (guest_of s) (guest_of r) e in
            let up = leb-true (guest_of r) (guest_of s) (both_left (leb (guest_of r) (guest_of s)) _ u) in
            both (q r s) (all? (q r) l) (across r s (omega arith)) (i k)

    pub pairwise-guests : (l : List Mapping) → all? (λ r. ltb (guest_of r) n) l ≡ true → pairwise (λ r s. leb (guest_of r) (guest_of s)) l ≡ true
        → ((g : ℕ) → g < n → pairwise q (records_of (guest g) l) ≡ true) → pairwise q l ≡ true
    pairwise-guests [] h u f = refl
    pairwise-guests (r ∷ l) h u f =
        both (all? (q r) l) (pairwise q l)
        (own_first r l (both_left (all? (λ s. leb (guest_of r) (guest_of s)) l) _ u) (both_left (all? (q r) (records_of (guest (guest_of r)) l)) _ (rw (eq-eqb (guest_of r) (guest_of r) refl) at (f (guest_of r) (ltb-true (guest_of r) n (both_left (ltb (guest_of r) n) _ h))))))
        (pairwise-guests l (both_right (ltb (guest_of r) n) _ h) (both_right (all? (λ s. leb (guest_of r) (guest_of s)) l) _ u) (λ g m. go g (eqb (guest_of r) g) (f g m)))
      where
        go : (g : ℕ) (b : Bool) → pairwise q (cond b (r ∷ records_of (guest g) l) (records_of (guest g) l)) ≡ true → pairwise q (records_of (guest g) l) ≡ true
        go g true k = both_right (all? (q r) (records_of (guest g) l)) _ k
        go g false k = k

-- records in order stand in the guests' order
pub before-upward : (l : List Mapping) → pairwise before l ≡ true → pairwise (λ r s. leb (guest_of r) (guest_of s)) l ≡ true
before-upward [] h = refl
before-upward (r ∷ l) h =
    both (all? (λ s. leb (guest_of r) (guest_of s)) l) _
    (all-imp (before r) (λ s. leb (guest_of r) (guest_of s)) l (λ s b. le-leb (guest_of r) (guest_of s) (go s (before-cases r s b))) (both_left (all? (before r) l) (pairwise before l) h))
    (before-upward l (both_right (all? (before r) l) (pairwise before l) h))
  where
    go : (s : Mapping) → (r.key < s.key) ⊎ ((r.key ≡ s.key) × (r.start < s.start)) → guest_of r ≤ guest_of s
    go s (inl a) = omega arith
    go s (inr a) = omega (arith, a.0)
