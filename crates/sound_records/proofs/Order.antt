-- Records of which each follows the one before are in order, and no two overlap.
use Prim.Native.Nat.{◌<◌}
use mathlib.Core.Path.{◌≡◌, refl, sym}
use mathlib.Core.Bool.{Bool, true, false, not, ◌&&◌, ◌||◌}
use mathlib.Core.List.{List, [], ◌∷◌}
use mathlib.Core.Logic.{◌⊎◌, inl, inr}
use native.Mathlib.Omega.{arith}
use lib.Dec.{leb, ltb, eqb}
use borrow.Author.Tests.{ltb-true, ltb-false, eqb-true, eq-eqb, ne_eqb, lt-ltb, le-leb, lt-leb}
use Rattle.laws.specs.Lists.{all?, pairwise}
use Rattle.laws.proofs.Tests.{both, both_left, both_right, true-false, or_cases, or_left, or_right}
use Rattle.laws.proofs.Filters.{all-imp}
use Rattle.rules.specs.declared.Mapping.{Mapping}
use Rattle.rules.specs.Table.{before, overlap, apart}
use Rattle.rules.proofs.Records.{before-cases, before-lower, before_same, before-trans, wide}
use Rattle.table_record.specs.Records.{no_mapping}
use Rattle.sound_records.specs.Scan.{follows, scan}

abbrev Past : Mapping → Mapping → Type 0
Past r s = (r.key < s.key) ⊎ ((r.key ≡ s.key) × (r.end < s.start))

past : (r s : Mapping) → follows r s ≡ true → Past r s
unfolding follows
past r s h = go (or_cases (ltb r.key s.key) (eqb r.key s.key && ltb r.end s.start) h)
  where
    go : (ltb r.key s.key ≡ true) ⊎ ((eqb r.key s.key && ltb r.end s.start) ≡ true) → Past r s
    go (inl e) = inl (ltb-true r.key s.key e)
    go (inr e) = inr (eqb-true r.key s.key (both_left (eqb r.key s.key) _ e), ltb-true r.end s.start (both_right (eqb r.key s.key) _ e))

apart-lower : (r s : Mapping) → r.key < s.key → apart r s ≡ true
unfolding overlap
apart-lower r s h = rw (ne_eqb r.key s.key (λ e. omega arith))

apart-past : (r s : Mapping) → r.end < s.start → apart r s ≡ true
unfolding overlap
apart-past r s h = rw (lt-leb s.start r.end h) (go (eqb r.key s.key) (leb r.start s.end))
  where
    go : (a b : Bool) → not (a && (b && false)) ≡ true
    go true true = refl
    go true false = refl
    go false b = refl

follows-before : (r s : Mapping) → wide r ≡ true → follows r s ≡ true → before r s ≡ true
unfolding wide
follows-before r s w h = go (past r s h)
  where
    go : Past r s → before r s ≡ true
    go (inl a) = before-lower r s a
    go (inr a) = before_same r s a.0 (omega (arith, ltb-true r.start r.end w))

follows-apart : (r s : Mapping) → follows r s ≡ true → apart r s ≡ true
follows-apart r s h = go (past r s h)
  where
    go : Past r s → apart r s ≡ true
    go (inl a) = apart-lower r s a
    go (inr a) = apart-past r s a.1

-- and apart from every later one
follows-beyond : (r s t : Mapping) → follows r s ≡ true → before s t ≡ true → apart r t ≡ true
follows-beyond r s t h k = go (past r s h) (before-cases s t k)
  where
    go : Past r s → (s.key < t.key) ⊎ ((s.key ≡ t.key) × (s.start < t.start)) → apart r t ≡ true
    go (inl a) (inl b) = apart-lower r t (omega arith)
    go (inl a) (inr b) = apart-lower r t (omega arith)
    go (inr a) (inl b) = apart-lower r t (omega arith)
    go (inr a) (inr b) = apart-past r t (omega arith)

-- a record before another and apart from it is followed by it
before-follows : (r s : Mapping) → wide s ≡ true → before r s ≡ true → apart r s ≡ true → follows r s ≡ true
unfolding follows overlap wide
before-follows r s w b a = go (before-cases r s b)
  where
    ends : (r.key ≡ s.key) → r.start < s.start → (t : Bool) → ltb r.end s.start ≡ t → t ≡ true
    ends e h true q = refl
    ends e h false q =
        true-false true refl
        (sym (rw (eq-eqb r.key s.key e, le-leb r.start s.end (omega (arith, ltb-true)), le-leb s.start r.end (ltb-false r.end s.start q)) at a))

    go : (r.key < s.key) ⊎ ((r.key ≡ s.key) × (r.start < s.start)) → (ltb r.key s.key || (eqb r.key s.key && ltb r.end s.start)) ≡ true
    go (inl h) = or_left (ltb r.key s.key) (eqb r.key s.key && ltb r.end s.start) (lt-ltb r.key s.key h)
    go (inr h) =
        or_right (ltb r.key s.key) (eqb r.key s.key && ltb r.end s.start)
        (both (eqb r.key s.key) (ltb r.end s.start) (eq-eqb r.key s.key h.0) (ends h.0 h.1 (ltb r.end s.start) refl))

-- in order, apart, and each with its tests passed: what the scan of the records l shows
pub record Scanned (form domain : Mapping → Bool) (l : List Mapping) : Type 0 where
  pub forms : all? form l ≡ true
  pub exist : all? domain l ≡ true
  pub order : pairwise before l ≡ true
  pub disjoint : pairwise apart l ≡ true

-- and where it goes on after p
record Linked (form domain : Mapping → Bool) (p : Mapping) (l : List Mapping) : Type 0 where
  scanned : Scanned form domain l
  later : all? (before p) l ≡ true
  beyond : all? (apart p) l ≡ true

module _ (form domain : Mapping → Bool) (filled : (r : Mapping) → form r ≡ true → wide r ≡ true) (keyed : (r s : Mapping) → r.key ≡ s.key → domain r ≡ true → domain s ≡ true) where
  -- what the scan asks of a record r after p
  abbrev own : Mapping → Mapping → Bool
  own p r = form r && (follows p r && (eqb p.key r.key || domain r))

  -- a record before records that were scanned, where it is before and apart from each
  link : (r : Mapping) (l : List Mapping) → form r ≡ true → domain r ≡ true → Linked form domain r l → Scanned form domain (r ∷ l)
  link r l f e i =
      record {
        forms = both (form r) (all? form l) f i.scanned.forms;
        exist = both (domain r) (all? domain l) e i.scanned.exist;
        order = both (all? (before r) l) (pairwise before l) i.later i.scanned.order;
        disjoint = both (all? (apart r) l) (pairwise apart l) i.beyond i.scanned.disjoint;
      }

  linked : (p : Mapping) (l : List Mapping) → wide p ≡ true → domain p ≡ true → scan form domain false p l ≡ true → Linked form domain p l
  linked p [] w d h = record { scanned = record { forms = refl; exist = refl; order = refl; disjoint = refl }; later = refl; beyond = refl }
  linked p (r ∷ l) w d h = go (linked r l (filled r f) e (both_right (own p r) (scan form domain false r l) h))
    where
      step : own p r ≡ true
      step = both_left (own p r) (scan form domain false r l) h

      f : form r ≡ true
      f = both_left (form r) (follows p r && (eqb p.key r.key || domain r)) step

      m : (follows p r && (eqb p.key r.key || domain r)) ≡ true
      m = both_right (form r) (follows p r && (eqb p.key r.key || domain r)) step

      n : follows p r ≡ true
      n = both_left (follows p r) (eqb p.key r.key || domain r) m

      at : (eqb p.key r.key ≡ true) ⊎ (domain r ≡ true) → domain r ≡ true
      at (inl q) = keyed p r (eqb-true p.key r.key q) d
      at (inr q) = q

      e : domain r ≡ true
      e = at (or_cases (eqb p.key r.key) (domain r) (both_right (follows p r) (eqb p.key r.key || domain r) m))

      go : Linked form domain r l → Linked form domain p (r ∷ l)
      go i =
          record {
            scanned = link r l f e i;
            later = both (before p r) (all? (before p) l) (follows-before p r w n) (all-imp (before r) (before p) l (λ t k. before-trans p r t (follows-before p r w n) k) i.later);
            beyond = both (apart p r) (all? (apart p) l) (follows-apart p r n) (all-imp (before r) (apart p) l (λ t k. follows-beyond p r t n k) i.later);
          }

  -- one pass shows all four
  pub from-scan : (l : List Mapping) → scan form domain true no_mapping l ≡ true → Scanned form domain l
  from-scan [] h = record { forms = refl; exist = refl; order = refl; disjoint = refl }
  from-scan (r ∷ l) h =
      let step = both_left (form r && (true && domain r)) (scan form domain false r l) h in
      let f = both_left (form r) (domain r) step in
      let e = both_right (form r) (domain r) step in
      link r l f e (linked r l (filled r f) e (both_right (form r && (true && domain r)) (scan form domain false r l) h))

  rest : (r : Mapping) (l : List Mapping) → Scanned form domain (r ∷ l) → Scanned form domain l
  rest r l t =
      record {
        forms = both_right (form r) (all? form l) t.forms;
        exist = both_right (domain r) (all? domain l) t.exist;
        order = both_right (all? (before r) l) (pairwise before l) t.order;
        disjoint = both_right (all? (apart r) l) (pairwise apart l) t.disjoint;
      }

  on-scan : (p : Mapping) (l : List Mapping) → all? (before p) l ≡ true → all? (apart p) l ≡ true → Scanned form domain l → scan form domain false p l ≡ true
  on-scan p [] b a t = refl
  on-scan p (r ∷ l) b a t =
      let f = both_left (form r) (all? form l) t.forms in
      both (own p r) (scan form domain false r l)
      (both (form r) (follows p r && (eqb p.key r.key || domain r)) f
      (both (follows p r) (eqb p.key r.key || domain r) (before-follows p r (filled r f) (both_left (before p r) _ b) (both_left (apart p r) _ a))
      (or_right (eqb p.key r.key) (domain r) (both_left (domain r) _ t.exist))))
      (on-scan r l (both_left (all? (before r) l) _ t.order) (both_left (all? (apart r) l) _ t.disjoint) (rest r l t))

  -- and is passed where all four hold
  pub to-scan : (l : List Mapping) → Scanned form domain l → scan form domain true no_mapping l ≡ true
  to-scan [] t = refl
  to-scan (r ∷ l) t =
      both (form r && (true && domain r)) (scan form domain false r l)
      (both (form r) (domain r) (both_left (form r) _ t.forms) (both_left (domain r) _ t.exist))
      (on-scan r l (both_left (all? (before r) l) _ t.order) (both_left (all? (apart r) l) _ t.disjoint) (rest r l t))
