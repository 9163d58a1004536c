-- Changes of the arrays and words that a world wrote are those that the changed world writes.
use Prim.Native.Nat.{ℕ, zero, suc, ◌≤◌, ◌<◌, min}
use mathlib.Core.Path.{◌≡◌, refl, sym, ap, ◌∙◌}
use mathlib.Core.Bool.{Bool, true, false, cond, not, ◌&&◌, ◌||◌}
use mathlib.Core.List.{List, [], ◌∷◌}
use mathlib.Core.Option.{some, none}
use native.Mathlib.Omega.{arith}
use lib.Dec.{ltb, eqb}
use lib.ListN.{length, get_or, set, length-set, get_or-eq_default}
use lib.Seq.{get_or-set_same, get_or-set_other}
use borrow.Author.Tests.{ltb-true, ltb-false, eqb-true, eqb-false}
use Rattle.laws.specs.Lists.{any?, keep, tab, pick_by}
use Rattle.laws.proofs.Tests.{both_left, both_right, true-false, or_left, or_right, same_test}
use Rattle.laws.proofs.Tables.{length-tab, get_d-tab, tab-is}
use Rattle.rules.specs.declared.Guest.{Guest}
use Rattle.rules.specs.declared.Domain.{Domain}
use Rattle.rules.specs.declared.Mapping.{Mapping}
use Rattle.rules.specs.Sizes.{max_endpoints, max_records}
use Rattle.rules.specs.Configuration.{Config}
use Rattle.rules.specs.Table.{insert_mapping}
use Rattle.rules.specs.State.{Attachment, Log, World, flag_of, number_of, state_of, write}
use Rattle.rules.specs.Handlers.{is_in, domain_exists}
use Rattle.rules.proofs.Groups.{Good}
use Rattle.rules.proofs.Records.{length-insert}
use Rattle.rules.proofs.Words.{records-table_of}
use Rattle.table_remove.specs.Removed.{within, kept_of}
use Rattle.table_insert.proofs.Inserted.{inserted-table}
use Rattle.table_remove.proofs.Removed.{removed-table}
use Rattle.state_endpoints.specs.Changes.{attach_at}
use Rattle.state_endpoints.specs.Search.{any_below, belongs}
use Rattle.refinement.specs.Flat.{removed, inserted}
use Rattle.refinement.specs.Flat as flat

-- a world with one thing changed
abbrev pub with_atts : List Attachment → World → World
with_atts l w = record { attachments = l; records = w.records; logs = w.logs }

abbrev pub with_recs : List Mapping → World → World
with_recs l w = record { attachments = w.attachments; records = l; logs = w.logs }

abbrev pub with_logs : List Log → World → World
with_logs l w = record { attachments = w.attachments; records = w.records; logs = l }

-- a list by index with one element set
pub set-tab : (m : ℕ) (f g : ℕ → ℕ) (i v : ℕ) → g i ≡ v → ((j : ℕ) → j < m → (j ≡ i → ⊥) → g j ≡ f j) → set (tab m f) i v ≡ tab m g
set-tab m f g i v e h = sym (tab-is m g (set (tab m f) i v) 0 (length-set (tab m f) i v ∙ length-tab m f) (λ j l. go j l (eqb j i) refl))
  where
    go : (j : ℕ) → j < m → (b : Bool) → eqb j i ≡ b → g j ≡ get_or (set (tab m f) i v) j 0
    go j l true x = let same = eqb-true j i x in ap g same ∙ e ∙ sym (ap (λ n. get_or (set (tab m f) i v) n 0) same ∙ get_or-set_same (tab m f) i v 0 (rw (length-tab m f, sym same) l))
    go j l false x = h j l (eqb-false j i x) ∙ sym (get_or-set_other (tab m f) i j v 0 (eqb-false j i x) ∙ get_d-tab m f j 0 l)

-- ATTACHMENTS

pub attached-written : (c : Config) (w : World) (i : ℕ) (a : Attachment) → i < length w.attachments → attach_at (state_of c w) i (flag_of a) (record { 0 = number_of a }) ≡ state_of c (with_atts (set w.attachments i a) w)
attached-written c w i a l =
    unfold attach_at state_of in
    rw (field flag_of, field number_of)
  where
    field : (q : Attachment → ℕ) → set (tab max_endpoints (λ j. q (get_or w.attachments j none))) i (q a) ≡ tab max_endpoints (λ j. q (get_or (set w.attachments i a) j none))
    field q = set-tab max_endpoints _ _ i (q a) (ap q (get_or-set_same w.attachments i a none l)) (λ j k n. ap q (get_or-set_other w.attachments i j a none n))

-- some number below n
pub any_at : (n : ℕ) (q : ℕ → Bool) → any_below n q ≡ true → (i : ℕ) × (i < n) × (q i ≡ true)
unfolding any_below
any_at zero q h = true-false true refl (sym h)
any_at (suc n) q h = go (q n) refl h (λ k. any_at n q k)
  where
    go : (b : Bool) → q n ≡ b → (b || any_below n q) ≡ true → (any_below n q ≡ true → (i : ℕ) × (i < n) × (q i ≡ true)) → (i : ℕ) × (i < suc n) × (q i ≡ true)
    go true e h f = (n, omega arith, e)
    go false e h f = let r = f h in (r.0, omega (arith, r.1), r.2)

pub any-from : (n : ℕ) (q : ℕ → Bool) (i : ℕ) → i < n → q i ≡ true → any_below n q ≡ true
unfolding any_below
any-from zero q i l e = absurd (omega arith)
any-from (suc n) q i l e = go (eqb i n) refl (λ m. any-from n q i m e)
  where
    go : (b : Bool) → eqb i n ≡ b → (i < n → any_below n q ≡ true) → (q n || any_below n q) ≡ true
    go true x f = or_left (q n) _ (rw (sym (eqb-true i n x)) e)
    go false x f = or_right (q n) _ (f (let z : (i ≡ n → ⊥) = eqb-false i n x in omega arith))

-- an owner's elements, by place
owned_place : (g : ℕ) (q : Attachment → Bool) (os : List ℕ) (l : List Attachment) → any? q (pick_by g os l) ≡ true → (i : ℕ) × (i < length l) × ((eqb (get_or os i 0) g && q (get_or l i none)) ≡ true)
owned_place g q [] l h = true-false true refl (sym h)
owned_place g q (o ∷ os) [] h = true-false true refl (sym h)
owned_place g q (o ∷ os) (a ∷ l) h = go (eqb o g) refl h (λ k. owned_place g q os l k)
  where
    next : (any? q (pick_by g os l) ≡ true → (i : ℕ) × (i < length l) × ((eqb (get_or os i 0) g && q (get_or l i none)) ≡ true)) → any? q (pick_by g os l) ≡ true → (i : ℕ) × (i < length (a ∷ l)) × ((eqb (get_or (o ∷ os) i 0) g && q (get_or (a ∷ l) i none)) ≡ true)
    next f k = let r = f k in (suc r.0, omega (arith, r.1), r.2)

    go : (b : Bool) → eqb o g ≡ b → any? q (cond b (a ∷ pick_by g os l) (pick_by g os l)) ≡ true → (any? q (pick_by g os l) ≡ true → (i : ℕ) × (i < length l) × ((eqb (get_or os i 0) g && q (get_or l i none)) ≡ true))
        → (i : ℕ) × (i < length (a ∷ l)) × ((eqb (get_or (o ∷ os) i 0) g && q (get_or (a ∷ l) i none)) ≡ true)
    go true x k f = here (q a) refl k
      where
        here : (t : Bool) → q a ≡ t → (t || any? q (pick_by g os l)) ≡ true → (i : ℕ) × (i < length (a ∷ l)) × ((eqb (get_or (o ∷ os) i 0) g && q (get_or (a ∷ l) i none)) ≡ true)
        here true y k = (0, omega arith, rw (x, y))
        here false y k = next f k
    go false x k f = next f k

owned-from : (g : ℕ) (q : Attachment → Bool) (os : List ℕ) (l : List Attachment) (i : ℕ) → i < length l → length l ≤ length os → (eqb (get_or os i 0) g && q (get_or l i none)) ≡ true → any? q (pick_by g os l) ≡ true
owned-from g q [] l i m n h = absurd (omega arith)
owned-from g q (o ∷ os) [] i m n h = absurd (omega arith)
owned-from g q (o ∷ os) (a ∷ l) zero m n h = rw (both_left (eqb o g) (q a) h) (or_left (q a) _ (both_right (eqb o g) (q a) h))
owned-from g q (o ∷ os) (a ∷ l) (suc i) m n h = go (eqb o g) (owned-from g q os l i (omega arith) (omega arith) h)
  where
    go : (b : Bool) → any? q (pick_by g os l) ≡ true → any? q (cond b (a ∷ pick_by g os l) (pick_by g os l)) ≡ true
    go true k = or_right (q a) _ k
    go false k = k

module _ (c : Config) (good-c : Good c) (w : World) (size : length w.attachments ≡ length c.owners) where
  -- what belongs at a place, as the arrays say it
  pub belongs-at : (g : Guest) (dom : Domain) (i : ℕ) → i < max_endpoints → belongs (state_of c w).owners (state_of c w).attached (state_of c w).domains g dom i ≡ (eqb (get_or c.owners i 0) g.0 && is_in dom (get_or w.attachments i none))
  unfolding state_of is_in
  belongs-at g dom i l =
      rw (get_d-tab max_endpoints (λ j. get_or c.owners j 0) i 0 l, get_d-tab max_endpoints (λ j. flag_of (get_or w.attachments j none)) i 0 l, get_d-tab max_endpoints (λ j. number_of (get_or w.attachments j none)) i 0 l)
      (ap (λ b. eqb (get_or c.owners i 0) g.0 && b) (go (get_or w.attachments i none)))
    where
      go : (a : Attachment) → (eqb (flag_of a) 1 && eqb (number_of a) dom.0) ≡ is_in dom a
      go none = refl
      go (some e) = refl

  -- the endpoint arrays have as many places each
  pub places-size : min (length (state_of c w).owners) (min (length (state_of c w).attached) (length (state_of c w).domains)) ≡ max_endpoints
  places-size = unfold state_of in rw (length-tab max_endpoints (λ j. get_or c.owners j 0), length-tab max_endpoints (λ j. flag_of (get_or w.attachments j none)), length-tab max_endpoints (λ j. number_of (get_or w.attachments j none)))

  pub small-place : {i : ℕ} → i < length w.attachments → i < max_endpoints
  small-place l = omega (arith, l, size, good-c.sizes, good-c.few)

  -- past the listed endpoints nothing is attached
  pub listed-place : (g : Guest) (dom : Domain) (i : ℕ) → (eqb (get_or c.owners i 0) g.0 && is_in dom (get_or w.attachments i none)) ≡ true → i < length w.attachments
  listed-place g dom i x = go (ltb i (length w.attachments)) refl
    where
      go : (b : Bool) → ltb i (length w.attachments) ≡ b → i < length w.attachments
      go true y = ltb-true i _ y
      go false y = true-false {P = i < length w.attachments} (is_in dom (get_or w.attachments i none)) (both_right (eqb (get_or c.owners i 0) g.0) _ x) (unfold is_in in (rw (get_or-eq_default w.attachments none (ltb-false i _ y))))

  pub exists-written : (g : Guest) (dom : Domain) → flat.domain_exists (state_of c w) g dom ≡ domain_exists dom (pick_by g.0 c.owners w.attachments)
  exists-written g dom =
      unfold flat.domain_exists domain_exists in
      (rw places-size (same_test _ _
      (λ x. let r = any_at max_endpoints _ x in owned-from g.0 (is_in dom) c.owners w.attachments r.0 (listed-place g dom r.0 (rw (belongs-at g dom r.0 r.1) at r.2)) (omega (arith, size)) (rw (belongs-at g dom r.0 r.1) at r.2))
      (λ x. let r = owned_place g.0 (is_in dom) c.owners w.attachments x in any-from max_endpoints _ r.0 (small-place r.1) (rw (belongs-at g dom r.0 (small-place r.1)) r.2))))

-- RECORDS

module _ (c : Config) (w : World) where
  pub removed-written : length w.records ≤ max_records → (low high a b : ℕ) → removed (write c w) low high a b ≡ write c (with_recs (keep (λ r. not (within low high a b r)) w.records) w)
  removed-written fit low high a b =
      unfold removed write kept_of in
      (rw (live-is, removed-table low high a b w.records fit, records-table_of w.records) (unfold state_of in refl))
    where
      live-is : (state_of c w).live ≡ length w.records
      live-is = unfold state_of in refl

  pub inserted-written : (r : Mapping) → length w.records < max_records → inserted (write c w) r ≡ write c (with_recs (insert_mapping r w.records) w)
  inserted-written r room =
      unfold inserted write in
      (rw (live-is, inserted-table r w.records room) (unfold state_of in rw (length-insert r w.records)))
    where
      live-is : (state_of c w).live ≡ length w.records
      live-is = unfold state_of in refl
