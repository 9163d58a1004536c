-- Whether one of an owner's elements passes a test.
use Prim.Native.Nat.{ℕ, zero, suc, ◌+◌, ◌<◌, ◌≤◌}
use mathlib.Core.Path.{◌≡◌, sym}
use mathlib.Core.Bool.{Bool, true, false, cond, ◌&&◌, ◌||◌, or_assoc}
use mathlib.Core.List.{List, [], ◌∷◌}
use native.Mathlib.Omega.{arith}
use lib.Dec.{eqb}
use lib.ListN.{length, get_or, drop, drop_of_length-le}
use Rattle.laws.specs.Lists.{any?, pick_by}
use Rattle.laws.proofs.Tests.{or_right}
use Rattle.laws.proofs.Rounds.{drop-next}

-- whether one of owner g's elements passes the test, with what is to go at place j
module _ {A : Type 0} (q : A → Bool) (z : A) (g : ℕ) (os : List ℕ) (l : List A) (j : ℕ) where
  pub owned-on : (b : Bool) → j < length os → j < length l
      → (b || any? q (pick_by g (drop j os) (drop j l))) ≡ ((b || (eqb (get_or os j 0) g && q (get_or l j z))) || any? q (pick_by g (drop (j + 1) os) (drop (j + 1) l)))
  owned-on b h k = rw (drop-next os j 0 h, drop-next l j z k) (go (eqb (get_or os j 0) g))
    where
      go : (t : Bool) → (b || any? q (cond t (get_or l j z ∷ pick_by g (drop (j + 1) os) (drop (j + 1) l)) (pick_by g (drop (j + 1) os) (drop (j + 1) l)))) ≡ ((b || (t && q (get_or l j z))) || any? q (pick_by g (drop (j + 1) os) (drop (j + 1) l)))
      go true = sym (or_assoc b (q (get_or l j z)) _)
      go false = sym (or_assoc b false _)

  pub owned-end : length os ≤ j → any? q (pick_by g (drop j os) (drop j l)) ≡ false
  owned-end h = rw (drop_of_length-le os {i = j} h)

-- an element of owner g that passes the test
pub owned_at-any : {A : Type 0} (q : A → Bool) (z : A) (g : ℕ) (os : List ℕ) (l : List A) (j : ℕ) → j < length os → j < length l → eqb (get_or os j 0) g ≡ true → q (get_or l j z) ≡ true → any? q (pick_by g os l) ≡ true
owned_at-any q z g [] l j h k o e = absurd (omega arith)
owned_at-any q z g (x ∷ os) [] j h k o e = absurd (omega arith)
owned_at-any q z g (x ∷ os) (a ∷ l) zero h k o e = rw (o, e)
owned_at-any q z g (x ∷ os) (a ∷ l) (suc j) h k o e = go (eqb x g) (owned_at-any q z g os l j (omega arith) (omega arith) o e)
  where
    go : (b : Bool) → any? q (pick_by g os l) ≡ true → any? q (cond b (a ∷ pick_by g os l) (pick_by g os l)) ≡ true
    go true i = or_right (q a) _ i
    go false i = i
