-- Laws of a lookup that passes over the first elements of a list: what is still to go.
use Prim.Native.Nat.{ℕ, ◌+◌, ◌<◌}
use mathlib.Core.Path.{◌≡◌}
use mathlib.Core.Bool.{Bool, true, false}
use mathlib.Core.List.{List}
use mathlib.Core.Option.{some}
use lib.ListN.{length, get_or, take, drop}
use Rattle.laws.specs.Lists.{find}
use Rattle.table_record.proofs.Laws.{to-go}

-- what a test of the element at place i says of what is to go
module _ {A : Type 0} (q : A → Bool) (z : A) (l : List A) (n i : ℕ) (h : i < length (take n l)) where
  pub find-yes : q (get_or l i z) ≡ true → find q (drop i (take n l)) ≡ some (get_or l i z)
  find-yes e = rw (to-go z l n i h, e)

  pub find-no : q (get_or l i z) ≡ false → find q (drop i (take n l)) ≡ find q (drop (i + 1) (take n l))
  find-no e = rw (to-go z l n i h, e)
