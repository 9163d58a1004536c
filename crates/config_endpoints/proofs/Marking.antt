-- Numbers marked by their remainders: where no remainder comes twice, no number does.
use Prim.Native.Nat.{ℕ, ◌%◌, ◌<◌}
use mathlib.Core.Path.{◌≡◌, refl, sym, ap, ◌∙◌}
use mathlib.Core.Bool.{Bool, true, false, not, ◌||◌, or-false}
use mathlib.Core.List.{List, [], ◌∷◌, ◌++◌}
use native.Mathlib.Omega.{arith}
use native.Mathlib.Nat.{mod-lt}
use lib.Dec.{eqb}
use lib.ListN.{length, get_or, set, replicate, length-set, get_or-replicate}
use lib.Seq.{get_or-set_same, get_or-set_other}
use borrow.Author.Tests.{eqb-true, eqb-false, ne_eqb}
use Rattle.laws.specs.Lists.{all?, any?, pairwise}
use Rattle.laws.proofs.Tests.{both, both_left, both_right, or_right, nor}

any_last : (q : ℕ → Bool) (l : List ℕ) (x : ℕ) → any? q (l ++ (x ∷ [])) ≡ (any? q l || q x)
any_last q [] x = or-false (q x)
any_last q (a ∷ l) x = go (q a) (any_last q l x)
  where
    go : (b : Bool) → any? q (l ++ (x ∷ [])) ≡ (any? q l || q x) → (b || any? q (l ++ (x ∷ []))) ≡ ((b || any? q l) || q x)
    go true e = refl
    go false e = e

all-last : (q : ℕ → Bool) (l : List ℕ) (x : ℕ) → all? q l ≡ true → q x ≡ true → all? q (l ++ (x ∷ [])) ≡ true
all-last q [] x h e = rw e
all-last q (a ∷ l) x h e = both (q a) _ (both_left (q a) (all? q l) h) (all-last q l x (both_right (q a) (all? q l) h) e)

pairs-last : (q : ℕ → ℕ → Bool) (l : List ℕ) (x : ℕ) → pairwise q l ≡ true → all? (λ a. q a x) l ≡ true → pairwise q (l ++ (x ∷ [])) ≡ true
pairs-last q [] x h k = refl
pairs-last q (a ∷ l) x h k =
    both (all? (q a) (l ++ (x ∷ []))) _ (all-last (q a) l x (both_left (all? (q a) l) _ h) (both_left (q a x) _ k))
    (pairs-last q l x (both_right (all? (q a) l) _ h) (both_right (q a x) _ k))

-- none has the remainder of e, so none is e
none-same : (l : List ℕ) (e : ℕ) → any? (λ x. eqb (x % 64) (e % 64)) l ≡ false → all? (λ a. not (eqb a e)) l ≡ true
none-same [] e h = refl
none-same (x ∷ l) e h =
    let t = nor (eqb (x % 64) (e % 64)) _ h in
    both (not (eqb x e)) _ (rw (ne_eqb x e (λ k. eqb-false (x % 64) (e % 64) t.0 (ap (λ (n : ℕ). n % 64) k)))) (none-same l e t.1)

-- place k of the marks says whether an element of l has the remainder k
abbrev pub Marked : List Bool → List ℕ → Type 0
Marked seen l = (length seen ≡ 64) × ((k : ℕ) → k < 64 → get_or seen k false ≡ any? (λ x. eqb (x % 64) k) l)

pub marked-none : Marked (replicate {A = Bool} 64 false) []
marked-none = (refl, λ k h. get_or-replicate {A = Bool} 64 k false false h)

pub marked_next : (seen : List Bool) (l : List ℕ) (e : ℕ) → Marked seen l → Marked (set seen (e % 64) true) (l ++ (e ∷ []))
marked_next seen l e m = (length-set seen (e % 64) true ∙ m.0, λ k h. go k h (eqb (e % 64) k) refl)
  where
    go : (k : ℕ) → k < 64 → (b : Bool) → eqb (e % 64) k ≡ b → get_or (set seen (e % 64) true) k false ≡ any? (λ x. eqb (x % 64) k) (l ++ (e ∷ []))
    go k h true q =
        let i : e % 64 ≡ k = eqb-true (e % 64) k q in
        rw (i, get_or-set_same seen k true false (omega (arith, m.0))) (sym (any_last (λ x. eqb (x % 64) k) l e ∙ or_right (any? (λ x. eqb (x % 64) k) l) (eqb (e % 64) k) q))
    go k h false q =
        get_or-set_other seen (e % 64) k true false (λ z. eqb-false (e % 64) k q (sym z))
        ∙ m.1 k h
        ∙ sym (any_last (λ x. eqb (x % 64) k) l e ∙ ap (λ (b : Bool). any? (λ x. eqb (x % 64) k) l || b) q ∙ or-false (any? (λ x. eqb (x % 64) k) l))

-- as long as no mark was met twice, no two elements are the same
pub apart_next : (seen : List Bool) (l : List ℕ) (e : ℕ) (r : Bool) → Marked seen l → (r ≡ false → pairwise (λ a b. not (eqb a b)) l ≡ true)
    → (r || get_or seen (e % 64) false) ≡ false → pairwise (λ a b. not (eqb a b)) (l ++ (e ∷ [])) ≡ true
apart_next seen l e r m h t =
    let n = nor r (get_or seen (e % 64) false) t in
    pairs-last (λ a b. not (eqb a b)) l e (h n.0) (none-same l e (sym (m.1 (e % 64) (mod-lt e (omega arith))) ∙ n.1))
