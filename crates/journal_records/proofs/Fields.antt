-- Laws of a journal's records.
use Prim.Native.Nat.{ℕ, ◌+◌, ◌≤◌, ◌<◌}
use mathlib.Core.Path.{◌≡◌, refl, sym, ◌∙◌}
use mathlib.Core.Bool.{cond, ◌&&◌}
use mathlib.Core.List.{List, [], ◌∷◌}
use native.Mathlib.Omega.{arith}
use lib.Dec.{leb, eqb}
use lib.ListN.{length}
use borrow.Author.Tests.{le-leb, lt-ltb, le-ltb, ne_eqb}
use Rattle.laws.specs.Bytes.{le_field}
use Rattle.laws.proofs.Tests.{either_way}
use Rattle.journal_records.specs.declared.Item.TheVariants.{Cut, Wrong}
use Rattle.journal_records.specs.Items.{GUEST, ENDPOINT, START, REGION, REQUEST20, REQUEST28, REQUEST36, REQUEST72, ACCESS, RESET, FETCH, longest_body, body_length, kind_of, size_of, item_of, front}

-- a field that is all there
pub field-there :
    (k n x : ℕ) (s : List ℕ) → n ≤ 8 → k + n ≤ length s → x ≡ cond (leb n 8 && leb (k + n) (length s)) (le_field k n s) 0 → x ≡ le_field k n s
field-there k n x s a b e = e ∙ rw (le-leb n 8 a, le-leb (k + n) (length s) b)

-- a whole record of a kind has that kind's bytes
pub sized : (k : ℕ) (s : List ℕ) → kind_of s ≡ k → size_of s ≤ length s → body_length k < length s
sized k s e h = rw (sym e) h

-- no body is longer than the longest
pub body-most : (k : ℕ) → body_length k ≤ longest_body
unfolding body_length
body-most k =
    let Few : ℕ → Type 0 = λ n. n ≤ longest_body in
    either_way Few (eqb k GUEST) (λ _. omega arith) (λ _.
    either_way Few (eqb k ENDPOINT) (λ _. omega arith) (λ _.
    either_way Few (eqb k START) (λ _. omega arith) (λ _.
    either_way Few (eqb k REGION) (λ _. omega arith) (λ _.
    either_way Few (eqb k REQUEST20) (λ _. omega arith) (λ _.
    either_way Few (eqb k REQUEST28) (λ _. omega arith) (λ _.
    either_way Few (eqb k REQUEST36) (λ _. omega arith) (λ _.
    either_way Few (eqb k REQUEST72) (λ _. omega arith) (λ _.
    either_way Few (eqb k ACCESS) (λ _. omega arith) (λ _.
    either_way Few (eqb k RESET) (λ _. omega arith) (λ _.
    either_way Few (eqb k FETCH) (λ _. omega arith) (λ _. omega arith)))))))))))

-- what stands at the front, by how many bytes there are
module _ (s : List ℕ) where
  pub front-none : length s ≡ 0 → Cut ≡ front s
  unfolding front
  front-none e = rw e

  pub front-unknown : 0 < length s → body_length (kind_of s) ≡ 0 → Wrong ≡ front s
  unfolding front
  front-unknown h e = rw (ne_eqb (length s) 0 (λ z. omega arith), e)

  pub front_cut : 0 < length s → 0 < body_length (kind_of s) → length s < size_of s → Cut ≡ front s
  unfolding front
  front_cut h b l = rw (ne_eqb (length s) 0 (λ z. omega arith), ne_eqb (body_length (kind_of s)) 0 (λ z. omega arith), lt-ltb (length s) (size_of s) l)

  pub front-whole : 0 < length s → 0 < body_length (kind_of s) → size_of s ≤ length s → item_of s ≡ front s
  unfolding front
  front-whole h b l = rw (ne_eqb (length s) 0 (λ z. omega arith), ne_eqb (body_length (kind_of s)) 0 (λ z. omega arith), le-ltb (length s) (size_of s) l)

-- of no bytes, the kind byte alone is asked for
pub size_none : (s : List ℕ) → length s ≡ 0 → size_of s ≡ 1
unfolding body_length
size_none [] e = refl
size_none (b ∷ s) e = absurd (omega arith)
