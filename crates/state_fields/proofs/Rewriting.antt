-- An array that a loop rewrites place by place, upwards, to a function of the place.
use Prim.Native.Nat.{ℕ, ◌+◌, ◌≤◌, ◌<◌}
use mathlib.Core.Path.{◌≡◌, refl, sym, ◌∙◌}
use mathlib.Core.Bool.{Bool, true, false}
use mathlib.Core.List.{List}
use native.Mathlib.Omega.{arith}
use lib.Dec.{ltb}
use lib.ListN.{length, get_or, set, length-set}
use lib.Seq.{get_or-set_same, get_or-set_other}
use borrow.Author.Count.{below_none, below_more}
use borrow.Author.Tests.{ltb-true, ltb-false}
use Rattle.laws.specs.Lists.{tab}
use Rattle.laws.proofs.Tables.{tab-is}

-- of l, the places below i are rewritten
pub record Written (f : ℕ → ℕ) (l : List ℕ) (i : ℕ) (out : List ℕ) : Type 0 where
  pub long : length out ≡ length l
  pub done : (j : ℕ) → j < i → get_or out j 0 ≡ f j
  pub old : (j : ℕ) → i ≤ j → get_or out j 0 ≡ get_or l j 0

module _ (f : ℕ → ℕ) (l : List ℕ) where
  -- a loop may begin at the first place that changes
  pub written_from : (i : ℕ) → ((j : ℕ) → j < i → get_or l j 0 ≡ f j) → Written f l i l
  written_from i same = record { long = refl; done = same; old = λ j h. refl }

  pub written_none : Written f l 0 l
  written_none = written_from 0 (below_none (λ j. get_or l j 0 ≡ f j))

  -- one more place, stored or left as it is
  pub written-store : (i : ℕ) (out : List ℕ) (v : ℕ) → Written f l i out → i < length l → v ≡ f i → Written f l (i + 1) (set out i v)
  written-store i out v w h e =
      record {
        long = simp length-set w.long;
        done =
            below_more (λ j. get_or (set out i v) j 0 ≡ f j) i
            (λ j k. get_or-set_other out i j v 0 (omega arith) ∙ w.done j k)
            (get_or-set_same out i v 0 (omega (arith, w.long)) ∙ e);
        old = λ j k. get_or-set_other out i j v 0 (omega arith) ∙ w.old j (omega arith);
      }

  pub written-keep : (i : ℕ) (out : List ℕ) → Written f l i out → get_or l i 0 ≡ f i → Written f l (i + 1) out
  written-keep i out w e =
      record { long = w.long; done = below_more (λ j. get_or out j 0 ≡ f j) i w.done (w.old i (omega arith) ∙ e); old = λ j k. w.old j (omega arith) }

  -- a loop may end past the last place that changes
  pub written-to : (n i : ℕ) (out : List ℕ) → length l ≡ n → ((j : ℕ) → i ≤ j → j < n → get_or l j 0 ≡ f j) → Written f l i out → out ≡ tab n f
  written-to n i out e same w = sym (tab-is n f out 0 (w.long ∙ e) (λ j k. sym (go j k (ltb j i) refl)))
    where
      go : (j : ℕ) → j < n → (b : Bool) → ltb j i ≡ b → get_or out j 0 ≡ f j
      go j k true t = w.done j (ltb-true j i t)
      go j k false t = w.old j (ltb-false j i t) ∙ same j (ltb-false j i t) k

  pub written_all : (n i : ℕ) (out : List ℕ) → length l ≡ n → n ≤ i → Written f l i out → out ≡ tab n f
  written_all n i out e h w = written-to n i out e (λ j k m. absurd (omega arith)) w
