-- A store to an array of any length, by a loop that rewrites it to a function of the place.
use Prim.Native.Nat.{ℕ, ◌+◌, ◌≤◌}
use mathlib.Core.Path.{◌≡◌, refl, sym, ◌∙◌}
use mathlib.Core.Bool.{Bool, true, false}
use mathlib.Core.List.{List}
use native.Mathlib.Omega.{arith}
use lib.Dec.{ltb}
use lib.ListN.{length, set, get_or-eq_default}
use lib.Seq.{set_out}
use borrow.Author.Tests.{ltb-true, ltb-false}
use Rattle.state_fields.proofs.Rewriting.{Written, written-store, written-keep}

-- past the array's end nothing is stored, and the function is zero there
pub store-any : (f : ℕ → ℕ) (l : List ℕ) (i : ℕ) (out : List ℕ) (v : ℕ) → Written f l i out → (length l ≤ i → f i ≡ 0) → v ≡ f i → Written f l (i + 1) (set out i v)
store-any f l i out v w z e = go (ltb i (length l)) refl
  where
    go : (b : Bool) → ltb i (length l) ≡ b → Written f l (i + 1) (set out i v)
    go true t = written-store f l i out v w (ltb-true i (length l) t) e
    go false t =
        let h : length l ≤ i = ltb-false i (length l) t in
        rw (set_out out i v (omega (arith, w.long))) (written-keep f l i out w (get_or-eq_default l 0 h ∙ sym (z h)))
