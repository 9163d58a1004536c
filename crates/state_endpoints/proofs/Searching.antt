-- What one turn of a loop adds to a search.
use Prim.Native.Nat.{ℕ, ◌+◌}
use mathlib.Core.Path.{◌≡◌, refl, sym}
use mathlib.Core.Bool.{Bool, false, ◌||◌}
use mathlib.Core.List.{List, ◌∷◌}
use native.Mathlib.Numerals.{add-one}
use borrow.Author.Tests.{eq-eqb, ne_eqb}
use Rattle.state_endpoints.specs.Search.{index_of, any_below}

-- from zero upwards
pub any-zero : (q : ℕ → Bool) → any_below 0 q ≡ false
unfolding any_below
any-zero q = refl

pub any-round : (n : ℕ) (q : ℕ → Bool) → any_below (n + 1) q ≡ (q n || any_below n q)
unfolding any_below
any-round n q = rw (add-one n)

-- the place of an element: no place passed before it has the number
module _ (e k : ℕ) (xs : List ℕ) where
  pub index-here : k ≡ e → index_of e (k ∷ xs) ≡ 0
  index-here h = rw (eq-eqb k e h)

  pub index-past : (k ≡ e → ⊥) → index_of e (k ∷ xs) ≡ index_of e xs + 1
  index-past h = rw (ne_eqb k e h) (sym (add-one _))
