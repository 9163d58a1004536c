-- Whether a region of one of an owner's endpoints in a domain passes a test, by the endpoint's place.
use Prim.Native.Nat.{ℕ, zero, suc, ◌≤◌, ◌<◌}
use mathlib.Core.Path.{◌≡◌, refl, sym, ◌∙◌}
use mathlib.Core.Bool.{Bool, true, false, cond, ◌&&◌, ◌||◌}
use mathlib.Core.List.{List, [], ◌∷◌}
use mathlib.Core.Option.{none}
use native.Mathlib.Omega.{arith}
use lib.Dec.{eqb}
use lib.ListN.{length, get_or}
use Rattle.laws.specs.Lists.{any?, pick_by}
use Rattle.laws.proofs.Tests.{both_left, both_right, true-false, or_left, or_right}
use Rattle.laws.proofs.Filters.{any_append}
use Rattle.rules.specs.declared.Domain.{Domain}
use Rattle.rules.specs.declared.Region.{Region}
use Rattle.rules.specs.State.{Attachment}
use Rattle.rules.specs.Handlers.{is_in, regions_in}

-- some endpoint of owner g in the domain, by place, has a region that passes
module _ (g : ℕ) (dom : Domain) (q : Region → Bool) where
  abbrev pub found : List ℕ → List Attachment → List (List Region) → ℕ → Bool
  found os l rs i = (eqb (get_or os i 0) g && is_in dom (get_or l i none)) && any? q (get_or rs i [])

  pub regions-at : (os : List ℕ) (l : List Attachment) (rs : List (List Region)) → length l ≡ length rs → any? q (regions_in dom (pick_by g os l) (pick_by g os rs)) ≡ true → (i : ℕ) × (i < length l) × (found os l rs i ≡ true)
  regions-at [] l rs n h = true-false true refl (sym h)
  regions-at (o ∷ os) [] rs n h = true-false true refl (sym h)
  regions-at (o ∷ os) (a ∷ l) [] n h = absurd (omega arith)
  regions-at (o ∷ os) (a ∷ l) (b ∷ rs) n h = go (eqb o g) refl (is_in dom a) refl h (λ k. regions-at os l rs (omega arith) k)
    where
      Later : Type 0
      Later = any? q (regions_in dom (pick_by g os l) (pick_by g os rs)) ≡ true → (i : ℕ) × (i < length l) × (found os l rs i ≡ true)

      Found : Type 0
      Found = (i : ℕ) × (i < length (a ∷ l)) × (found (o ∷ os) (a ∷ l) (b ∷ rs) i ≡ true)

      next : Later → any? q (regions_in dom (pick_by g os l) (pick_by g os rs)) ≡ true → Found
      next f k = let r = f k in (suc r.0, omega (arith, r.1), r.2)

      go : (t : Bool) → eqb o g ≡ t → (u : Bool) → is_in dom a ≡ u → any? q (regions_in dom (cond t (a ∷ pick_by g os l) (pick_by g os l)) (cond t (b ∷ pick_by g os rs) (pick_by g os rs))) ≡ true → Later → Found
      go true x true y k f = here (any? q b) refl (sym (any_append q b (regions_in dom (pick_by g os l) (pick_by g os rs))) ∙ (rw y at k))
        where
          here : (v : Bool) → any? q b ≡ v → (v || any? q (regions_in dom (pick_by g os l) (pick_by g os rs))) ≡ true → Found
          here true z k = (0, omega arith, rw (x, y, z))
          here false z k = next f k
      go true x false y k f = next f (rw y at k)
      go false x u y k f = next f k

  pub regions-from : (os : List ℕ) (l : List Attachment) (rs : List (List Region)) (i : ℕ) → i < length l → length l ≤ length os → length l ≡ length rs → found os l rs i ≡ true → any? q (regions_in dom (pick_by g os l) (pick_by g os rs)) ≡ true
  regions-from [] l rs i m n s h = absurd (omega arith)
  regions-from (o ∷ os) [] rs i m n s h = absurd (omega arith)
  regions-from (o ∷ os) (a ∷ l) [] i m n s h = absurd (omega arith)
  regions-from (o ∷ os) (a ∷ l) (b ∷ rs) zero m n s h =
      let first = both_left (eqb o g && is_in dom a) (any? q b) h in
      rw (both_left (eqb o g) (is_in dom a) first, both_right (eqb o g) (is_in dom a) first)
      (any_append q b (regions_in dom (pick_by g os l) (pick_by g os rs)) ∙ or_left (any? q b) _ (both_right (eqb o g && is_in dom a) (any? q b) h))
  regions-from (o ∷ os) (a ∷ l) (b ∷ rs) (suc i) m n s h = go (eqb o g) (is_in dom a) refl (regions-from os l rs i (omega arith) (omega arith) (omega arith) h)
    where
      go : (t u : Bool) → is_in dom a ≡ u → any? q (regions_in dom (pick_by g os l) (pick_by g os rs)) ≡ true → any? q (regions_in dom (cond t (a ∷ pick_by g os l) (pick_by g os l)) (cond t (b ∷ pick_by g os rs) (pick_by g os rs))) ≡ true
      go true true y k = rw y (any_append q b (regions_in dom (pick_by g os l) (pick_by g os rs)) ∙ or_right (any? q b) _ k)
      go true false y k = rw y k
      go false u y k = k
