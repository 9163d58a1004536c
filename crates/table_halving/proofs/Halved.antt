-- On records in order the lookup by halving finds what the device's lookup finds.
use Prim.Native.Nat.{ℕ, zero, suc, ◌≤◌, ◌<◌}
use mathlib.Core.Path.{◌≡◌, refl, sym, ap, ◌∙◌}
use mathlib.Core.Bool.{Bool, true, false, cond, not, ◌&&◌}
use mathlib.Core.List.{List, [], ◌∷◌}
use mathlib.Core.Option.{Option, some, none}
use native.Mathlib.Omega.{arith}
use lib.Dec.{leb, ltb}
use lib.ListN.{length, get_or}
use borrow.Author.Tests.{ltb-true, ltb-false, le-leb, eq-eqb}
use Rattle.laws.specs.Lists.{find}
use Rattle.laws.proofs.Tests.{true-false}
use Rattle.laws.proofs.Filters.{found-any}
use Rattle.laws.proofs.Tables.{any_at, pairs-at}
use Rattle.rules.specs.declared.Access.{Access}
use Rattle.rules.specs.declared.Mapping.{Mapping}
use Rattle.rules.specs.Table.{overlap, apart}
use Rattle.rules.specs.Handlers.{of_key}
use Rattle.rules.specs.Access.{has_flag, permits, find_mapping}
use Rattle.rules.proofs.Records.{wide}
use Rattle.rules.proofs.Accesses.{Covers, permits-covers}
use Rattle.table_record.specs.Records.{no_mapping}
use Rattle.table_search.specs.Halving.{last_up_to}
use Rattle.table_search.proofs.Ordered.{last_within, Reaches, reaches}
use Rattle.table_search.proofs.Ordered as ordered
use Rattle.table_halving.specs.Halving.{last_record}
use Rattle.table_halving.specs.Order.{InOrder}
use Rattle.table_halving.proofs.Outcomes.{last_some}
use Rattle.table_halving.specs.Lookup.{covers, flagged, passing, covering, looked_up}

-- where one element alone passes a test, it is the one found
only-passing : (q : Mapping → Bool) (z : Mapping) (l : List Mapping) (i : ℕ) → i < length l → q (get_or l i z) ≡ true → ((j : ℕ) → j < length l → q (get_or l j z) ≡ true → j ≡ i) → find q l ≡ some (get_or l i z)
only-passing q z [] i h p u = absurd (omega arith)
only-passing q z (x ∷ l) i h p u = go i h p u (q x) refl (λ j m r v. only-passing q z l j m r v)
  where
    go : (i : ℕ) → i < length (x ∷ l) → q (get_or (x ∷ l) i z) ≡ true → ((j : ℕ) → j < length (x ∷ l) → q (get_or (x ∷ l) j z) ≡ true → j ≡ i) → (b : Bool) → q x ≡ b
        → ((j : ℕ) → j < length l → q (get_or l j z) ≡ true → ((k : ℕ) → k < length l → q (get_or l k z) ≡ true → k ≡ j) → find q l ≡ some (get_or l j z))
        → cond b (some x) (find q l) ≡ some (get_or (x ∷ l) i z)
    go zero h p u true e ih = refl
    go zero h p u false e ih = true-false (q x) p e
    go (suc j) h p u true e ih = absurd (let n : 0 ≡ suc j = u 0 (omega arith) e in omega arith)
    go (suc j) h p u false e ih = ih j (omega arith) p (λ k m r. let n : suc k ≡ suc j = u (suc k) (omega arith) r in omega arith)

-- records in order are as the search's laws want them
as-searched : (l : List Mapping) → InOrder l → ordered.InOrder l
unfolding wide
as-searched l o = record { order = o.order; disjoint = o.disjoint; filled = o.filled }

module _ (key : ℕ) (a : Access) where
  -- a record that covers the address and has the flag permits the access
  both-tests : (r : Mapping) → passing (flagged a.kind) (passing (covers key a.address) (some r)) ≡ cond (permits key a r) (some r) none
  unfolding passing covers permits
  both-tests r = go (of_key key r) (leb r.start a.address && leb a.address r.end) (has_flag a.kind r.flags) refl
    where
      go : (b c f : Bool) → has_flag a.kind r.flags ≡ f → passing (flagged a.kind) (cond (b && c) (some r) none) ≡ cond (b && (c && f)) (some r) none
      go true true f e = rw e
      go true false f e = refl
      go false c f e = refl

  -- of no records none is looked up, and of some the one that the search finds, where it permits the access
  nothing : looked_up key a [] ≡ none
  unfolding looked_up covering last_record passing
  nothing = refl

  module _ (l : List Mapping) where
    abbrev at : ℕ → Mapping
    at i = get_or l i no_mapping

    abbrev place : ℕ
    place = last_up_to key a.address l

    candidate : 0 < length l → looked_up key a l ≡ cond (permits key a (at place)) (some (at place)) none
    unfolding looked_up covering
    candidate h = ap (λ o. passing (flagged a.kind) (passing (covers key a.address) o)) (last_some key a.address l h) ∙ both-tests (at place)

    -- no other record than the one that the search finds permits the access
    module _ (o : InOrder l) where
      alone : (j : ℕ) → j < length l → permits key a (at j) ≡ true → j ≡ place
      alone j h p = go (ltb j place) refl (ltb place j) refl
        where
          c : Covers key a (at j)
          c = permits-covers key a (at j) p

          k : Reaches key a.address l (as-searched l o) j
          k = reaches key a.address l (as-searched l o) j h c.key c.from

          -- two records of the domain that cover the address overlap
          meet : (r s : Mapping) → r.key ≡ key → s.key ≡ key → r.start ≤ a.address → a.address ≤ r.end → s.start ≤ a.address → a.address ≤ s.end → overlap r s ≡ true
          meet r s x y b c d e = unfold overlap in rw (eq-eqb r.key s.key (x ∙ sym y), le-leb r.start s.end (omega arith), le-leb s.start r.end (omega arith))

          conflict : {P : Type 0} (r s : Mapping) → apart r s ≡ true → overlap r s ≡ true → P
          conflict r s x y = true-false (not (overlap r s)) x (rw y)

          go : (b : Bool) → ltb j place ≡ b → (d : Bool) → ltb place j ≡ d → j ≡ place
          go true x d y = conflict (at j) (at place) (pairs-at apart l j place no_mapping o.disjoint (ltb-true j place x) k.within) (meet (at j) (at place) c.key k.same c.from c.to k.starts (omega (arith, c.to, k.end)))
          go false x true y = conflict (at place) (at j) (pairs-at apart l place j no_mapping o.disjoint (ltb-true place j y) h) (meet (at place) (at j) k.same c.key k.starts (omega (arith, c.to, k.end)) c.from c.to)
          go false x false y = omega (arith, ltb-false j place x, ltb-false place j y)

      found-there : 0 < length l → cond (permits key a (at place)) (some (at place)) none ≡ find (permits key a) l
      found-there h = go (permits key a (at place)) refl (find (permits key a) l) refl
        where
          go : (b : Bool) → permits key a (at place) ≡ b → (m : Option Mapping) → find (permits key a) l ≡ m → cond b (some (at place)) none ≡ m
          go true x m e = sym (only-passing (permits key a) no_mapping l place (last_within key a.address l h) x alone) ∙ e
          go false x none e = refl
          go false x (some r) e =
              let i = any_at (permits key a) l no_mapping (found-any (permits key a) l r e) in
              let p : i.0 ≡ place = alone i.0 i.1 i.2 in
              true-false (permits key a (at place)) (rw p at i.2) x

  pub looked-up : (l : List Mapping) → InOrder l → looked_up key a l ≡ find_mapping key a l
  unfolding find_mapping
  looked-up [] o = nothing
  looked-up (r ∷ l) o = candidate (r ∷ l) (omega arith) ∙ found-there (r ∷ l) o (omega arith)

  -- what is looked up permits the access, in order or not
  pub looked-permits : (l : List Mapping) (r : Mapping) → looked_up key a l ≡ some r → permits key a r ≡ true
  looked-permits [] r e = absurd (let n : none ≡ some r = sym nothing ∙ e in let z : ◌≡◌ {A = ℕ} 0 1 = cc in omega arith)
  looked-permits (s ∷ l) r e = go (permits key a c) refl (sym (candidate (s ∷ l) (omega arith)) ∙ e)
    where
      c : Mapping
      c = at (s ∷ l) (place (s ∷ l))

      go : (b : Bool) → permits key a c ≡ b → cond b (some c) none ≡ some r → permits key a r ≡ true
      go true p q = let t : c ≡ r = cc in rw t at p
      go false p q = absurd (let z : ◌≡◌ {A = ℕ} 0 1 = cc in omega arith)
