-- What the search finds among records in order.
use Prim.Native.Nat.{ℕ, ◌≤◌, ◌<◌}
use mathlib.Core.Path.{◌≡◌, refl, sym, ◌∙◌}
use mathlib.Core.Bool.{Bool, true, false, not, ◌&&◌}
use mathlib.Core.List.{List}
use mathlib.Core.Logic.{◌⊎◌, inl, inr}
use native.Mathlib.Omega.{arith}
use lib.Dec.{leb, ltb, eqb}
use lib.ListN.{length, get_or}
use borrow.Author.Tests.{ltb-true, ltb-false, lt-ltb, leb-true, leb-false, le-leb, eqb-true, eq-eqb}
use Rattle.laws.specs.Lists.{all?, pairwise}
use Rattle.laws.proofs.Tests.{both, both_left, both_right, true-false, or_cases, or_left, or_right}
use Rattle.laws.proofs.Tables.{all-at, pairs-at}
use Rattle.rules.specs.declared.Mapping.{Mapping}
use Rattle.rules.specs.Table.{before, overlap, apart}
use Rattle.rules.proofs.Records.{wide, before-cases}
use Rattle.table_record.specs.Records.{no_mapping}
use Rattle.table_search.specs.Halving.{up_to, last_up_to}
use Rattle.table_search.proofs.Halves.{halved-within, Last, last_found}

-- records "ascending by first word, then by virt_start", none of them empty, of which no two of one domain overlap
pub record InOrder (l : List Mapping) : Type 0 where
  pub order : pairwise before l ≡ true
  pub disjoint : pairwise apart l ≡ true
  pub filled : all? wide l ≡ true

-- the record found is one of the list's, in order or not
pub last_within : (key address : ℕ) (l : List Mapping) → 0 < length l → last_up_to key address l < length l
unfolding last_up_to
last_within key address l h = let w = halved-within (λ i. up_to key address (get_or l i no_mapping)) (length l) 0 (length l) h in omega arith

module _ (key address : ℕ) where
  up-to-cases : (r : Mapping) → up_to key address r ≡ true → (r.key < key) ⊎ ((r.key ≡ key) × (r.start ≤ address))
  up-to-cases r h = go (or_cases (ltb r.key key) (eqb r.key key && leb r.start address) h)
    where
      go : (ltb r.key key ≡ true) ⊎ ((eqb r.key key && leb r.start address) ≡ true) → (r.key < key) ⊎ ((r.key ≡ key) × (r.start ≤ address))
      go (inl e) = inl (ltb-true r.key key e)
      go (inr e) = inr (eqb-true r.key key (both_left (eqb r.key key) _ e), leb-true r.start address (both_right (eqb r.key key) _ e))

  up-to-lower : (r : Mapping) → r.key < key → up_to key address r ≡ true
  up-to-lower r h = or_left (ltb r.key key) _ (lt-ltb r.key key h)

  up-to-same : (r : Mapping) → r.key ≡ key → r.start ≤ address → up_to key address r ≡ true
  up-to-same r e h = or_right (ltb r.key key) _ (both (eqb r.key key) _ (eq-eqb r.key key e) (le-leb r.start address h))

  -- what stands before a record that does not stand after the address does not either
  up-to-before : (r s : Mapping) → before r s ≡ true → up_to key address s ≡ true → up_to key address r ≡ true
  up-to-before r s h k = go (before-cases r s h) (up-to-cases s k)
    where
      go : (r.key < s.key) ⊎ ((r.key ≡ s.key) × (r.start < s.start)) → (s.key < key) ⊎ ((s.key ≡ key) × (s.start ≤ address)) → up_to key address r ≡ true
      go (inl a) (inl b) = up-to-lower r (omega arith)
      go (inl a) (inr b) = up-to-lower r (omega arith)
      go (inr a) (inl b) = up-to-lower r (omega arith)
      go (inr a) (inr b) = up-to-same r (omega arith) (omega arith)

  module _ (l : List Mapping) (o : InOrder l) where
    abbrev at : ℕ → Mapping
    at i = get_or l i no_mapping

    abbrev passes : ℕ → Bool
    passes i = up_to key address (at i)

    in_order : (i j : ℕ) → i < j → j < length l → before (at i) (at j) ≡ true
    in_order i j h k = pairs-at before l i j no_mapping o.order h k

    falls : (i j : ℕ) → i ≤ j → j < length l → passes i ≡ false → passes j ≡ false
    falls i j h k e = go (passes j) refl (ltb i j) refl
      where
        go : (b : Bool) → passes j ≡ b → (c : Bool) → ltb i j ≡ c → b ≡ false
        go false x c y = refl
        go true x true y = true-false (passes i) (up-to-before (at i) (at j) (in_order i j (ltb-true i j y) k) x) e
        go true x false y = let s : i ≡ j = omega (arith, ltb-false i j y) in true-false (passes i) (rw s x) e

    pub found-last : 0 < length l → Last passes (length l) (last_up_to key address l)
    unfolding last_up_to
    found-last h = last_found passes (length l) falls h

    -- of two records of one domain the later ends later
    ends : (i j : ℕ) → i < j → j < length l → (at i).key ≡ (at j).key → (at i).end ≤ (at j).end
    unfolding wide overlap
    ends i j h k e = go (leb (at i).start (at j).end) refl (leb (at j).start (at i).end) refl apart-here
      where
        filled : (at j).start < (at j).end
        filled = ltb-true _ _ (all-at wide l j no_mapping o.filled k)

        starts : ((at i).key < (at j).key) ⊎ (((at i).key ≡ (at j).key) × ((at i).start < (at j).start)) → (at i).start < (at j).start
        starts (inl a) = absurd (omega arith)
        starts (inr a) = a.1

        earlier : (at i).start < (at j).start
        earlier = starts (before-cases (at i) (at j) (in_order i j h k))

        apart-here : not (leb (at i).start (at j).end && leb (at j).start (at i).end) ≡ true
        apart-here = rw (eq-eqb (at i).key (at j).key e) at (pairs-at apart l i j no_mapping o.disjoint h k)

        go : (b : Bool) → leb (at i).start (at j).end ≡ b → (c : Bool) → leb (at j).start (at i).end ≡ c → not (b && c) ≡ true → (at i).end ≤ (at j).end
        go true x true y z = true-false true refl (sym z)
        go true x false y z = omega (arith, leb-false (at j).start (at i).end y, filled)
        go false x c y z = absurd (omega (arith, leb-false (at i).start (at j).end x, filled, earlier))

    -- where a record of the domain starts at or before the address, the one found is of the domain, starts there too, and ends no
    -- earlier
    pub record Reaches (j : ℕ) : Type 0 where
      pub within : last_up_to key address l < length l
      pub same : (at (last_up_to key address l)).key ≡ key
      pub starts : (at (last_up_to key address l)).start ≤ address
      pub end : (at j).end ≤ (at (last_up_to key address l)).end

    pub reaches : (j : ℕ) → j < length l → (at j).key ≡ key → (at j).start ≤ address → Reaches j
    reaches j h e s = go (ltb j p) refl
      where
        p : ℕ
        p = last_up_to key address l

        found : Last passes (length l) p
        found = found-last (omega arith)

        here : passes j ≡ true
        here = up-to-same (at j) e s

        -- no record after the one found is as this one is
        not-later : p < j → ⊥
        not-later k = true-false (passes j) here (found.after j k h)

        of-domain : ((at j).key < (at p).key) ⊎ (((at j).key ≡ (at p).key) × ((at j).start < (at p).start)) → ((at p).key < key) ⊎ (((at p).key ≡ key) × ((at p).start ≤ address)) → ((at p).key ≡ key) × ((at p).start ≤ address)
        of-domain (inl a) (inl b) = absurd (omega arith)
        of-domain (inr a) (inl b) = absurd (omega arith)
        of-domain a (inr b) = b

        passed : j < p → (p ≡ 0) ⊎ (passes p ≡ true) → passes p ≡ true
        passed k (inl z) = absurd (omega arith)
        passed k (inr z) = z

        itself : (b : Bool) → ltb p j ≡ b → ltb j p ≡ false → Reaches j
        itself true y x = absurd (not-later (ltb-true p j y))
        itself false y x =
            let z : last_up_to key address l ≡ j = omega (arith, ltb-false p j y, ltb-false j p x) in
            record { within = found.within; same = rw z e; starts = rw z s; end = rw z (omega arith) }

        go : (b : Bool) → ltb j p ≡ b → Reaches j
        go true x =
            let k = ltb-true j p x in
            let d = of-domain (before-cases (at j) (at p) (in_order j p k found.within)) (up-to-cases (at p) (passed k found.here)) in
            record { within = found.within; same = d.0; starts = d.1; end = ends j p k found.within (e ∙ sym d.0) }
        go false x = itself (ltb p j) refl x
