-- Laws of endpoints that are detached.
use Prim.Native.Nat.{ℕ, ◌+◌, ◌≤◌, ◌<◌}
use mathlib.Core.Path.{◌≡◌, refl}
use mathlib.Core.Bool.{Bool, true, false, cond, ◌&&◌}
use mathlib.Core.List.{List}
use mathlib.Core.Logic.{◌≢◌}
use native.Mathlib.Omega.{arith}
use lib.Dec.{ltb, eqb}
use lib.ListN.{length, get_or, set, get_or-eq_default}
use borrow.Author.Tests.{lt-ltb, le-ltb, eq-eqb, ne_eqb}
use Rattle.rules.specs.declared.Guest.{Guest}
use Rattle.state_fields.proofs.Rewriting.{Written, written_none, written-keep, written-to}
use Rattle.state_reset.proofs.Storing.{store-any}
use Rattle.state_reset.specs.Changes.{zero_of, zeroed_of}

-- of an array with a place for each endpoint, l, the places below i are as they are when the endpoints of guest g are detached
module _ (n : ℕ) (g : Guest) (owners : List ℕ) where
  abbrev pub Zeroed : ℕ → List ℕ → List ℕ → Type 0
  Zeroed i l out = Written (zero_of n g owners l) l i out

  pub zero-first : (l : List ℕ) → Zeroed 0 l l
  zero-first l = written_none (zero_of n g owners l) l

  -- past the array's end nothing stands
  zero-past : (l : List ℕ) (i : ℕ) → length l ≤ i → zero_of n g owners l i ≡ 0
  unfolding zero_of
  zero-past l i h = rw (get_or-eq_default l 0 h) (go (ltb i n && eqb (get_or owners i 0) g.0))
    where
      go : (b : Bool) → ◌≡◌ {A = ℕ} (cond b 0 0) 0
      go true = refl
      go false = refl

  -- one turn of the loop that detaches
  pub zero_in : (i : ℕ) → i < n → get_or owners i 0 ≡ g.0 → (l out : List ℕ) → Zeroed i l out → Zeroed (i + 1) l (set out i 0)
  unfolding zero_of
  zero_in i h e l out w = store-any (zero_of n g owners l) l i out 0 w (zero-past l i) (rw (lt-ltb i n h, eq-eqb (get_or owners i 0) g.0 e))

  pub zero-out : (i : ℕ) → i < n → get_or owners i 0 ≢ g.0 → (l out : List ℕ) → Zeroed i l out → Zeroed (i + 1) l out
  unfolding zero_of
  zero-out i h e l out w = written-keep (zero_of n g owners l) l i out w (rw (lt-ltb i n h, ne_eqb (get_or owners i 0) g.0 e))

  kept-past : (l : List ℕ) (i : ℕ) → n ≤ i → get_or l i 0 ≡ zero_of n g owners l i
  unfolding zero_of
  kept-past l i h = rw (le-ltb i n h)

  pub zero-last : (i : ℕ) → n ≤ i → (l out : List ℕ) → Zeroed i l out → out ≡ zeroed_of n g owners l
  zero-last i h l out w = written-to (zero_of n g owners l) l (length l) i out refl (λ j m k. kept-past l j (omega arith)) w
