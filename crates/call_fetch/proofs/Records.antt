-- The bytes of faults, put into a buffer one record after another.
use Prim.Native.Nat.{ℕ, zero, suc, ◌+◌, ◌-◌, ◌*◌, ◌≤◌}
use mathlib.Core.Path.{◌≡◌, refl, sym, ap, ◌∙◌}
use mathlib.Core.Bool.{cond}
use mathlib.Core.List.{List, [], ◌∷◌, ◌++◌, append-nil, append_assoc}
use native.Mathlib.Omega.{arith}
use native.Mathlib.Numerals.{add-one}
use lib.Dec.{leb}
use lib.ListN.{length, drop, length-append}
use lib.Seq.{take_at, drop-append-add, drop-drop}
use borrow.Rule.Slice.PartMut.{mid_of, put_mid, Post-is, mid_len}
use Rattle.laws.specs.Lists.{tab_from, tab}
use Rattle.laws.proofs.Tables.{length-tab}
use Rattle.rules.specs.declared.Guest.{Guest}
use Rattle.rules.specs.declared.State.{State}
use Rattle.rules.specs.declared.Fault.{Fault}
use Rattle.rules.specs.Sizes.{max_faults}
use Rattle.rules.specs.State.{fault_at}
use Rattle.rules.specs.Access.{fault_bytes, bytes_of}
use Rattle.wire_faults.proofs.Laws.{length-fault, fault-whole}
use Rattle.refinement.specs.Flat.{fetch_bytes}

-- the bytes of j faults, and then those that were there
abbrev pub written : (ℕ → Fault) → ℕ → List ℕ → List ℕ
written f j d = bytes_of (tab j f) ++ drop (24 * j) d

-- the 24 bytes that record j is written to
abbrev pub slot : ℕ → List ℕ → List ℕ
slot j b = mid_of (24 * j) (24 * j + 24 - 24 * j) b

tab-next : {A : Type 0} (n : ℕ) (f : ℕ → A) → tab (n + 1) f ≡ tab n f ++ (f n ∷ [])
unfolding tab_from
tab-next {A} n f = rw add-one (go 0 n ∙ ap (λ (m : ℕ). tab_from 0 n f ++ (f m ∷ [])) (omega arith))
  where
    go : (k n : ℕ) → tab_from k (suc n) f ≡ tab_from k n f ++ (f (k + n) ∷ [])
    go k zero = ap (λ (m : ℕ). f m ∷ []) (omega arith)
    go k (suc n) = ap (λ (l : List A). f k ∷ l) (go (suc k) n ∙ ap (λ (m : ℕ). tab_from (suc k) n f ++ (f m ∷ [])) (omega arith))

bytes-append : (l m : List Fault) → bytes_of (l ++ m) ≡ bytes_of l ++ bytes_of m
bytes-append [] m = refl
bytes-append (f ∷ l) m = rw (bytes-append l m) (sym (append_assoc (fault_bytes f) (bytes_of l) (bytes_of m)))

length-bytes : (l : List Fault) → length (bytes_of l) ≡ 24 * length l
length-bytes [] = refl
length-bytes (f ∷ l) = length-append (fault_bytes f) (bytes_of l) ∙ rw (length-fault f, length-bytes l) (omega arith)

module _ (f : ℕ → Fault) (d : List ℕ) where
  pub written_none : d ≡ written f 0 d
  unfolding tab_from
  written_none = refl

  -- one record more, written through the part of 24 bytes that begins after the earlier ones
  pub written_next : (j : ℕ) (b p : List ℕ) → b ≡ written f j d → 24 * j + 24 ≤ length b → p ≡ cond (leb 24 (length (slot j b))) (fault_bytes (f j) ++ drop 24 (slot j b)) (slot j b)
      → put_mid (24 * j) (24 * j + 24 - 24 * j) b p ≡ written f (j + 1) d
  written_next j b p was room came =
      let A = bytes_of (tab j f) in
      let la : length A ≡ 24 * j = length-bytes (tab j f) ∙ ap (λ (n : ℕ). 24 * n) (length-tab j f) in
      let e : p ≡ fault_bytes (f j) = came ∙ fault-whole (f j) (slot j b) (mid_len (24 * j) (24 * j + 24) b room ∙ omega arith) in
      let next : bytes_of (tab (j + 1) f) ≡ A ++ p = ap bytes_of (tab-next j f) ∙ bytes-append (tab j f) (f j ∷ []) ∙ rw (append-nil (fault_bytes (f j)), e) in
      let m : 24 * (j + 1) ≡ 24 * j + 24 = omega arith in
      let after : drop (24 * j + 24) (A ++ drop (24 * j) d) ≡ drop (24 * j + 24) d = rw (sym la, drop-append-add A (drop (length A) d) 24, drop-drop 24 (length A) d) in
      rw (was, take_at A (drop (24 * j) d) (24 * j) la, Post-is (24 * j) (24 * j + 24) (A ++ drop (24 * j) d) (omega arith), after, next, m) (sym (append_assoc A p (drop (24 * j + 24) d)))

pub written_all : (s : State) (g : Guest) (n j : ℕ) (d b : List ℕ) → b ≡ written (λ k. fault_at s (max_faults * g.0 + k)) j d → j ≡ n → b ≡ fetch_bytes s g n d
unfolding fetch_bytes
written_all s g n j d b e q = rw (sym q) e
