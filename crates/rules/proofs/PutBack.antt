-- One guest's records, changed and put back, against the same change on the whole table.
use Prim.Native.Nat.{◌≤◌, ◌<◌}
use mathlib.Core.Path.{◌≡◌, refl, sym, ap, ◌∙◌}
use mathlib.Core.Bool.{Bool, true, false, cond, not, ◌&&◌, ◌||◌}
use mathlib.Core.List.{List, [], ◌∷◌, ◌++◌}
use mathlib.Core.Logic.{⊎_elim}
use native.Mathlib.Omega.{arith}
use lib.Dec.{ltb}
use borrow.Author.Tests.{ltb-true, ltb-false, eq-eqb, ne_eqb, le-ltb, not-true}
use Rattle.laws.specs.Lists.{all?, any?, keep, pairwise}
use Rattle.laws.proofs.Tests.{both_left, both_right}
use Rattle.laws.proofs.Filters.{all-imp, all-kept, keep_all, keep-none, keep_append, keep-keep, any-keep}
use Rattle.rules.specs.declared.Guest.{Guest}
use Rattle.rules.specs.declared.Mapping.{Mapping}
use Rattle.rules.specs.Table.{guest_of, before, insert_mapping}
use Rattle.rules.specs.Guests.{records_of, with_records_of}
use Rattle.rules.proofs.Records.{before-cases, before-guest, mine}

-- records in order have their guests in order
guests-in-order : (r s : Mapping) → before r s ≡ true → guest_of r ≤ guest_of s
guests-in-order r s h = ⊎_elim (λ a. omega (arith, a)) (λ a. omega (arith, a.0)) (before-cases r s h)

-- of two guests, the record of the higher is not before that of the lower
not-before : (r s : Mapping) → guest_of s < guest_of r → before r s ≡ false
not-before r s h = go (before r s) refl
  where
    go : (b : Bool) → before r s ≡ b → b ≡ false
    go true e = absurd (omega (arith, guests-in-order r s e))
    go false e = refl

abbrev lower : Guest → Mapping → Bool
lower g r = ltb (guest_of r) g.0

abbrev higher : Guest → Mapping → Bool
higher g r = ltb g.0 (guest_of r)

module _ (g : Guest) (x : Mapping) (l : List Mapping) (h : pairwise before (x ∷ l) ≡ true) where
  after-x : all? (before x) l ≡ true
  after-x = both_left (all? (before x) l) (pairwise before l) h

  none-lower : g.0 ≤ guest_of x → keep (lower g) l ≡ []
  none-lower e = keep-none (lower g) l (all-imp (before x) (λ y. not (lower g y)) l (λ y k. rw (le-ltb (guest_of y) g.0 (omega (arith, guests-in-order x y k)))) after-x)

  none-mine : g.0 < guest_of x → keep (mine g) l ≡ []
  none-mine e = keep-none (mine g) l (all-imp (before x) (λ y. not (mine g y)) l (λ y k. rw (ne_eqb (guest_of y) g.0 (λ q. omega (arith, guests-in-order x y k)))) after-x)

-- a table in order is the lower guests' records, then g's, then the higher guests'
pub three-parts : (g : Guest) (l : List Mapping) → pairwise before l ≡ true → keep (lower g) l ++ (keep (mine g) l ++ keep (higher g) l) ≡ l
three-parts g [] h = refl
three-parts g (x ∷ l) h = go (ltb (guest_of x) g.0) refl (ltb g.0 (guest_of x)) refl (three-parts g l (both_right (all? (before x) l) (pairwise before l) h))
  where
    go : (a : Bool) → ltb (guest_of x) g.0 ≡ a → (b : Bool) → ltb g.0 (guest_of x) ≡ b → keep (lower g) l ++ (keep (mine g) l ++ keep (higher g) l) ≡ l
        → cond a (x ∷ keep (lower g) l) (keep (lower g) l) ++ (cond (mine g x) (x ∷ keep (mine g) l) (keep (mine g) l) ++ cond b (x ∷ keep (higher g) l) (keep (higher g) l)) ≡ x ∷ l
    go true a true b i = absurd (omega (arith, ltb-true))
    go true a false b i = rw (ne_eqb (guest_of x) g.0 (λ q. omega (arith, ltb-true))) (ap (λ m. x ∷ m) i)
    go false a true b i = rw (ne_eqb (guest_of x) g.0 (λ q. omega (arith, ltb-true)), none-lower g x l h (omega (arith, ltb-true)), none-mine g x l h (ltb-true g.0 (guest_of x) b)) (ap (λ m. x ∷ m) (sym (rw (none-lower g x l h (omega (arith, ltb-true)), none-mine g x l h (ltb-true g.0 (guest_of x) b)) at (sym i))))
    go false a false b i = rw (eq-eqb (guest_of x) g.0 (omega (arith, ltb-false)), none-lower g x l h (omega (arith, ltb-false))) (ap (λ m. x ∷ m) (sym (rw (none-lower g x l h (omega (arith, ltb-false))) at (sym i))))

-- put back unchanged
pub with-same : (g : Guest) (l : List Mapping) → pairwise before l ≡ true → with_records_of g (records_of g l) l ≡ l
unfolding with_records_of
with-same g l h = three-parts g l h

-- a filter of g's records
pub with-kept : (g : Guest) (q : Mapping → Bool) (l : List Mapping) → pairwise before l ≡ true → with_records_of g (keep q (records_of g l)) l ≡ keep (λ r. not (mine g r) || q r) l
unfolding with_records_of
with-kept g q l h =
    sym (ap (λ m. keep kept m) (sym (three-parts g l h))
    ∙ keep_append kept (keep (lower g) l) (keep (mine g) l ++ keep (higher g) l)
    ∙ ap (λ m. keep kept (keep (lower g) l) ++ m) (keep_append kept (keep (mine g) l) (keep (higher g) l))
    ∙ rw (lows, highs, mids))
  where
    kept : Mapping → Bool
    kept r = not (mine g r) || q r

    lows : keep kept (keep (lower g) l) ≡ keep (lower g) l
    lows = keep_all kept (keep (lower g) l) (all-imp (lower g) kept (keep (lower g) l) (λ r e. rw (ne_eqb (guest_of r) g.0 (λ x. omega (arith, ltb-true (guest_of r) g.0 e)))) (all-kept (lower g) l))

    highs : keep kept (keep (higher g) l) ≡ keep (higher g) l
    highs = keep_all kept (keep (higher g) l) (all-imp (higher g) kept (keep (higher g) l) (λ r e. rw (ne_eqb (guest_of r) g.0 (λ x. omega (arith, ltb-true g.0 (guest_of r) e)))) (all-kept (higher g) l))

    both-mine : (r : Mapping) → (mine g r && kept r) ≡ (mine g r && q r)
    both-mine r = go (mine g r)
      where
        go : (b : Bool) → (b && (not b || q r)) ≡ (b && q r)
        go true = refl
        go false = refl

    mids : keep kept (keep (mine g) l) ≡ keep q (keep (mine g) l)
    mids = keep-keep kept (mine g) (λ r. mine g r && q r) l both-mine ∙ sym (keep-keep q (mine g) (λ r. mine g r && q r) l (λ r. refl))

-- a record put in
insert-after : (r : Mapping) (a m : List Mapping) → all? (λ s. not (before r s)) a ≡ true → insert_mapping r (a ++ m) ≡ a ++ insert_mapping r m
insert-after r [] m h = refl
insert-after r (s ∷ a) m h = rw (not-true (before r s) (both_left (not (before r s)) _ h)) (ap (λ l. s ∷ l) (insert-after r a m (both_right (not (before r s)) _ h)))

insert-first : (r : Mapping) (c : List Mapping) → all? (before r) c ≡ true → insert_mapping r c ≡ r ∷ c
insert-first r [] h = refl
insert-first r (s ∷ c) h = rw (both_left (before r s) _ h)

insert-before : (r : Mapping) (b c : List Mapping) → all? (before r) c ≡ true → insert_mapping r (b ++ c) ≡ insert_mapping r b ++ c
insert-before r [] c h = insert-first r c h
insert-before r (s ∷ b) c h = go (before r s) (insert-before r b c h)
  where
    go : (t : Bool) → insert_mapping r (b ++ c) ≡ insert_mapping r b ++ c → cond t (r ∷ s ∷ (b ++ c)) (s ∷ insert_mapping r (b ++ c)) ≡ cond t (r ∷ s ∷ b) (s ∷ insert_mapping r b) ++ c
    go true i = refl
    go false i = ap (λ l. s ∷ l) i

pub with-inserted : (g : Guest) (r : Mapping) (l : List Mapping) → guest_of r ≡ g.0 → pairwise before l ≡ true → with_records_of g (insert_mapping r (records_of g l)) l ≡ insert_mapping r l
unfolding with_records_of
with-inserted g r l e h =
    sym (ap (λ m. insert_mapping r m) (sym (three-parts g l h))
    ∙ insert-after r (keep (lower g) l) (keep (mine g) l ++ keep (higher g) l) (all-imp (lower g) (λ s. not (before r s)) (keep (lower g) l) (λ s k. rw (not-before r s (omega (arith, e, ltb-true (guest_of s) g.0 k)))) (all-kept (lower g) l))
    ∙ ap (λ m. keep (lower g) l ++ m) (insert-before r (keep (mine g) l) (keep (higher g) l) (all-imp (higher g) (before r) (keep (higher g) l) (λ s k. before-guest r s (omega (arith, e, ltb-true g.0 (guest_of s) k))) (all-kept (higher g) l))))

-- a test of records of one guest, on the whole table
pub any_of : (g : Guest) (q : Mapping → Bool) (l : List Mapping) → ((r : Mapping) → q r ≡ true → guest_of r ≡ g.0) → any? q (records_of g l) ≡ any? q l
any_of g q l f = any-keep (mine g) q l (λ r h. eq-eqb (guest_of r) g.0 (f r h))
