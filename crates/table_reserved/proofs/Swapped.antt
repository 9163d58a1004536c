-- Asked of each region whether a record is on it, or of each record whether it is on a region.
use Prim.Native.Nat.{ℕ, ◌≤◌}
use mathlib.Core.Path.{◌≡◌, refl, sym, ap, ◌∙◌}
use mathlib.Core.Bool.{Bool, true, false, ◌&&◌, ◌||◌, and_comm}
use mathlib.Core.List.{List, [], ◌∷◌}
use native.Mathlib.Omega.{arith}
use lib.Dec.{leb, ltb, eqb}
use lib.ListN.{length, get_or}
use borrow.Author.Tests.{ltb-true, lt-ltb, leb-true, le-leb, eqb-true, eq-eqb}
use Rattle.laws.specs.Lists.{any?}
use Rattle.laws.proofs.Tests.{both, both_left, both_right, same_test, eqb-sym}
use Rattle.laws.proofs.Filters.{any_same}
use Rattle.laws.proofs.Tables.{any_at, any_of}
use Rattle.rules.specs.declared.Mapping.{Mapping}
use Rattle.rules.specs.declared.Region.{Region}
use Rattle.rules.specs.Configuration.{meets}
use Rattle.rules.specs.Table.{overlap}
use Rattle.rules.specs.Handlers.{of_key, on_region}
use Rattle.table_record.specs.Records.{no_mapping}
use Rattle.table_search.specs.Halving.{last_up_to}
use Rattle.table_search.proofs.Ordered.{InOrder, reaches, last_within}
use Rattle.table_reserved.specs.Reserved.{record_over, region_met, regions_met}

any-or : {A : Type 0} (p q : A → Bool) (l : List A) → any? (λ x. p x || q x) l ≡ (any? p l || any? q l)
any-or p q [] = refl
any-or p q (x ∷ l) = rw (any-or p q l) (go (p x) (q x) (any? p l) (any? q l))
  where
    go : (a b s t : Bool) → ((a || b) || (s || t)) ≡ ((a || s) || (b || t))
    go true b s t = refl
    go false true true t = refl
    go false true false t = refl
    go false false s t = refl

any-no : {A : Type 0} (l : List A) → any? (λ x. false) l ≡ false
any-no [] = refl
any-no (x ∷ l) = any-no l

any-and : {A : Type 0} (b : Bool) (q : A → Bool) (l : List A) → any? (λ x. b && q x) l ≡ (b && any? q l)
any-and true q l = refl
any-and false q l = any-no l

-- two lists, asked either way round
any_swap : {A B : Type 0} (f : A → B → Bool) (l : List A) (m : List B) → any? (λ x. any? (f x) m) l ≡ any? (λ y. any? (λ x. f x y) l) m
any_swap f [] m = sym (any-no m)
any_swap f (x ∷ l) m = rw (any_swap f l m) (sym (any-or (f x) (λ y. any? (λ x. f x y) l) m))

-- a region is met, by what the search finds, where a record in order overlaps it
met-any : (key : ℕ) (l : List Mapping) (q : Region) → InOrder l → region_met key l q ≡ any? (overlap (record_over key q)) l
unfolding region_met overlap
met-any key l q o = same_test (region_met key l q) (any? (overlap (record_over key q)) l) down up
  where
    meeting : (r : Mapping) → overlap (record_over key q) r ≡ true → (key ≡ r.key) × (q.start ≤ r.end) × (r.start ≤ q.end)
    meeting r h =
        let b = both_right (eqb key r.key) _ h in
        (eqb-true key r.key (both_left (eqb key r.key) _ h), leb-true q.start r.end (both_left (leb q.start r.end) _ b), leb-true r.start q.end (both_right (leb q.start r.end) _ b))

    met-here : (r : Mapping) → r.key ≡ key → q.start ≤ r.end → r.start ≤ q.end → overlap (record_over key q) r ≡ true
    met-here r e a b = both (eqb key r.key) _ (eq-eqb key r.key (sym e)) (both (leb q.start r.end) _ (le-leb q.start r.end a) (le-leb r.start q.end b))

    place : ℕ
    place = last_up_to key q.end l

    down : region_met key l q ≡ true → any? (overlap (record_over key q)) l ≡ true
    down h =
        let some = ltb-true 0 (length l) (both_left (ltb 0 (length l)) _ h) in
        any_of (overlap (record_over key q)) l place no_mapping (last_within key q.end l some) (both_right (ltb 0 (length l)) _ h)

    up : any? (overlap (record_over key q)) l ≡ true → region_met key l q ≡ true
    up h =
        let f = any_at (overlap (record_over key q)) l no_mapping h in
        let m = meeting (get_or l f.0 no_mapping) f.2 in
        let r = reaches key q.end l o f.0 f.1 (sym m.0) m.2 in
        both (ltb 0 (length l)) _ (lt-ltb 0 (length l) (omega (arith, f.1))) (met-here (get_or l place no_mapping) r.same (omega (arith, m.1, r.end)) r.starts)

-- of records in order, one of the key's domain is on one of the regions
pub regions-met : (key : ℕ) (l : List Mapping) (qs : List Region) → InOrder l → regions_met key l qs ≡ any? (λ r. of_key key r && on_region qs r) l
unfolding regions_met on_region
regions-met key l qs o =
    any_same _ _ qs (λ q. met-any key l q o)
    ∙ any_swap (λ q r. overlap (record_over key q) r) qs l
    ∙ any_same _ _ l (λ r. any_same _ _ qs (λ q. turned q r) ∙ any-and (of_key key r) (meets r.start r.end) qs)
  where
    turned : (q : Region) (r : Mapping) → overlap (record_over key q) r ≡ (of_key key r && meets r.start r.end q)
    turned q r = unfold overlap of_key in (rw (eqb-sym key r.key) (ap (λ (b : Bool). eqb r.key key && b) (and_comm (leb q.start r.end) (leb r.start q.end))))
