-- What is looked up in the endpoint arrays.
use Rattle.std.specs.Prelude.{ℕ, zero, suc, Bool, false, cond, ◌&&◌, ◌||◌, List, [], ◌∷◌, eqb, get_or}
use Rattle.rules.specs.declared.Guest.{Guest}
use Rattle.rules.specs.declared.Domain.{Domain}

-- the place of the first e in the list, or the list's length where there is none
abbrev pub index_of : ℕ → List ℕ → ℕ
index_of e [] = 0
index_of e (k ∷ l) = cond (eqb k e) 0 (suc (index_of e l))

-- some number below n passes the test
unfoldable pub any_below : ℕ → (ℕ → Bool) → Bool
any_below zero q = false
any_below (suc n) q = q n || any_below n q

-- place i has an endpoint of guest g that is attached to domain d
abbrev pub belongs : List ℕ → List ℕ → List ℕ → Guest → Domain → ℕ → Bool
belongs owners attached domains g d i = eqb (get_or owners i 0) g.0 && (eqb (get_or attached i 0) 1 && eqb (get_or domains i 0) d.0)
