-- A law of a test that passes over the first elements of a list: what is still to go.
use Prim.Native.Nat.{ℕ, ◌+◌, ◌<◌}
use mathlib.Core.Path.{◌≡◌, sym}
use mathlib.Core.Bool.{Bool, ◌||◌, or_assoc}
use mathlib.Core.List.{List}
use lib.ListN.{length, get_or, take, drop}
use Rattle.laws.specs.Lists.{any?}
use Rattle.table_record.proofs.Laws.{to-go}

-- the element at place i is tested, and the rest is to go
pub any-on : {A : Type 0} (q : A → Bool) (z : A) (l : List A) (n i : ℕ) → i < length (take n l) → (b : Bool)
    → (b || any? q (drop i (take n l))) ≡ ((b || q (get_or l i z)) || any? q (drop (i + 1) (take n l)))
any-on q z l n i h b = rw (to-go z l n i h) (sym (or_assoc b _ _))
