-- Laws of lists for loops that take elements out: those kept close up, and a part is filled with one value.
use Prim.Native.Nat.{ℕ, zero, suc, ◌+◌, ◌-◌, ◌<◌, ◌≤◌}
use mathlib.Core.Path.{◌≡◌, refl, ap}
use mathlib.Core.Bool.{Bool, true}
use mathlib.Core.List.{List, [], ◌∷◌, ◌++◌}
use native.Mathlib.Omega.{arith}
use native.Mathlib.Numerals.{add-one}
use lib.ListN.{length, get_or, take, drop, set, replicate, length-take}
use lib.Seq.{take-suc-set, take-set-lt, drop-set-lt, append_snoc}
use borrow.Rule.Slice.PartMut.{mid_of, put_mid, mid_len, Post-is}
use Rattle.laws.specs.Lists.{keep}
use Rattle.table_record.proofs.Laws.{keep-yes}

module _ {A : Type 0} where
  pub take-bounded : (n : ℕ) (l : List A) → take (length (take n l)) l ≡ take n l
  take-bounded zero l = refl
  take-bounded (suc n) [] = refl
  take-bounded (suc n) (x ∷ l) = ap (λ (m : List A). x ∷ m) (take-bounded n l)

-- a list whose part from a to e came back filled with z
pub filled : {A : Type 0} (z : A) (a e : ℕ) (l m : List A) → a ≤ e → e ≤ length l → m ≡ replicate (length (mid_of a (e - a) l)) z
    → put_mid a (e - a) l m ≡ take a l ++ (replicate (e - a) z ++ drop e l)
filled z a e l m h k q = rw (q, mid_len a e l k, Post-is a e l h)

-- the elements kept close up below place w: the one at place i goes there
pub close_up : {A : Type 0} (q : A → Bool) (z : A) (l : List A) (n i : ℕ) → i < length (take n l) → (w : ℕ) → w ≤ i → q (get_or l i z) ≡ true
    → take (w + 1) (set l w (get_or l i z)) ++ keep q (drop (i + 1) (take n (set l w (get_or l i z)))) ≡ take w l ++ keep q (drop i (take n l))
close_up q z l n i h w k e =
    let x = get_or l i z in
    let m : (w < n) × (w < length l) = omega (arith, length-take n l) in
    rw (
      add-one w,
      take-suc-set l w x m.1,
      take-set-lt n l w x m.0,
      drop-set-lt (i + 1) (take n l) w x (omega arith),
      keep-yes q z l n i h e,
    )
    (append_snoc (take w l) x (keep q (drop (i + 1) (take n l))))
