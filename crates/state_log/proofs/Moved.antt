-- Laws of a list of which the first elements go.
use Prim.Native.Nat.{ℕ, ◌+◌, ◌-◌, ◌≤◌, ◌<◌, min}
use mathlib.Core.Path.{◌≡◌, refl, sym, ap, ◌∙◌}
use mathlib.Core.Bool.{Bool, true, false}
use mathlib.Core.List.{List, [], ◌++◌, append-nil}
use native.Mathlib.Nat.{zero-add}
use native.Mathlib.Omega.{arith}
use lib.Dec.{ltb}
use lib.ListN.{length, drop, replicate, length-drop, drop_of_length-le}
use lib.Seq.{paste}
use borrow.Rule.Slice.PartMut.{mid_of, put_mid, mid_len}
use borrow.Author.Tests.{ltb-true, ltb-false}
use Rattle.std.specs.List.{copy_within}
use Rattle.std.proofs.lemmas.List.{length-replicate, length-append}
use Rattle.std.proofs.lemmas.List.Edits.{length-paste, paste_all, paste-paste}
use Rattle.std.proofs.lemmas.Slice.{put_mid-paste}

-- the elements after the k first ones at the front, and z after them
pub shifted-out : {T : Type 0} (xs ys zs : List T) (k m : ℕ) (z : T) → m ≡ min k (length xs) → ys ≡ copy_within xs m (length xs) 0
    → zs ≡ replicate (length (mid_of (length xs - m) (length ys - (length xs - m)) ys)) z
    → put_mid (length xs - m) (length ys - (length xs - m)) ys zs ≡ drop k xs ++ replicate (min k (length xs)) z
shifted-out {T} xs ys zs k m z e p q =
    let n = length xs in
    let kept : length (drop m xs) ≡ n - m = length-drop m xs in
    let filled : length (replicate m z) ≡ m = length-replicate m z in
    let long : length ys ≡ n = rw p (length-paste xs 0 (drop m xs) (n - m) (omega arith) (omega arith)) in
    let rest : length (mid_of (n - m) (length ys - (n - m)) ys) ≡ m = mid_len (n - m) (length ys) ys (omega arith) ∙ omega arith in
    let all : drop m xs ≡ drop k xs = go (ltb n k) refl e in
    let none : drop (0 + (n - m + m)) xs ≡ [] = drop_of_length-le xs (omega arith) in
    put_mid-paste (n - m) (length ys - (n - m)) ys zs (replicate m z) m (q ∙ ap (λ (j : ℕ). replicate j z) rest) (omega arith) (sym filled)
    ∙ ap (λ (j : ℕ). paste ys j (replicate m z) m) (sym (zero-add (n - m)))
    ∙ ap (λ (y : List T). paste y (0 + (n - m)) (replicate m z) m) p
    ∙ paste-paste xs 0 (drop m xs) (replicate m z) (n - m) m (sym kept) (sym filled) (omega arith)
    ∙ paste_all xs 0 (drop m xs ++ replicate m z) (n - m + m) (omega (arith, length-append (drop m xs) (replicate m z)))
    ∙ ap (λ (l : List T). (drop m xs ++ replicate m z) ++ l) none
    ∙ append-nil (drop m xs ++ replicate m z)
    ∙ rw (all, e) refl
  where
    go : (b : Bool) → ltb (length xs) k ≡ b → m ≡ min k (length xs) → drop m xs ≡ drop k xs
    go true t e =
        let h : length xs < k = ltb-true (length xs) k t in
        let none : drop m xs ≡ [] = drop_of_length-le xs (omega arith) in
        none ∙ sym (drop_of_length-le xs (omega arith))
    go false t e = ap (λ (j : ℕ). drop j xs) (let h : k ≤ length xs = ltb-false (length xs) k t in omega arith)
