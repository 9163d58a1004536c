-- Whether a record goes on with a domain, and how many do.
use Prim.Native.Nat.{ℕ, suc, ◌+◌, ◌<◌, ◌≤◌}
use mathlib.Core.Path.{◌≡◌, ap}
use mathlib.Core.Bool.{Bool, true, false, cond, ◌&&◌}
use mathlib.Core.List.{List, [], ◌∷◌}
use native.Mathlib.Omega.{arith}
use lib.Dec.{ltb, eqb}
use lib.ListN.{length, get_or, take, drop}
use Rattle.rules.specs.declared.Mapping.{Mapping}
use Rattle.table_record.specs.Records.{no_mapping}
use Rattle.table_record.proofs.Laws.{to-go}
use Rattle.map_steps.specs.Forms.{run}

-- the record x at place i of the first n
module _ (l : List Mapping) (n i : ℕ) (x : Mapping) (h : i < length (take n l)) (e : x ≡ get_or l i no_mapping) where
  pub now-at : drop i (take n l) ≡ x ∷ drop (i + 1) (take n l)
  now-at = rw e (to-go no_mapping l n i h)

  -- it goes on, and so may those after it, or none does
  pub run_at : (form : Mapping → Bool) (key end : ℕ) → run form key end (drop i (take n l)) ≡ cond (eqb x.key key && (ltb end x.start && form x)) (suc (run form key x.end (drop (i + 1) (take n l)))) 0
  run_at form key end = ap (run form key end) now-at

-- no more go on than there are
pub run-within : (form : Mapping → Bool) (key end : ℕ) (l : List Mapping) → run form key end l ≤ length l
run-within form key end [] = omega arith
run-within form key end (r ∷ l) = go (eqb r.key key && (ltb end r.start && form r)) (run-within form key r.end l)
  where
    go : (b : Bool) → run form key r.end l ≤ length l → cond b (suc (run form key r.end l)) 0 ≤ suc (length l)
    go true h = omega arith
    go false h = omega arith
