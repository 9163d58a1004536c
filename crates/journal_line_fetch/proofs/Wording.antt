-- Laws of a fetch's lines: the pieces that are put one after the other.
use Prim.Native.Nat.{ℕ, suc, ◌+◌, ◌-◌, ◌*◌, ◌≤◌, ◌<◌}
use mathlib.Core.Path.{◌≡◌}
use mathlib.Core.Bool.{true}
use mathlib.Core.List.{List, [], ◌∷◌, ◌++◌, append_assoc}
use native.Mathlib.Omega.{arith}
use borrow.Author.Tests.{eq-eqb, ne_eqb, leb-true}
use lib.Dec.{leb}
use lib.ListN.{length, take, drop}
use lib.Seq.{drop-drop}
use Rattle.laws.proofs.Tests.{both_left, both_right}
use Rattle.rules.specs.Sizes.{max_faults, fault_size}
use Rattle.rules.specs.declared.Answer.{Answer}
use Rattle.rules.specs.Answers.{number, fetched_count}
use Rattle.journal_text.specs.Text.{newline, decimal, hex_line}
use Rattle.journal_line_plain.specs.Plain.{number_line}
use Rattle.journal_text.proofs.Numbers.{decimal-one}
use Rattle.journal_line_fetch.specs.Lines.{record_lines, fetch_lines, fetch_fits}

-- the start of the lines of a fetch that is not refused
abbrev pub fetch_head : List ℕ
fetch_head = 70 ∷ 32 ∷ 48 ∷ 32 ∷ []

module _ (a : Answer) where
  module _ (h : number a ≡ 0) where
    pub fetch-given : (b : List ℕ) → fetch_lines a b ≡ (fetch_head ++ (decimal (fetched_count a) ++ (newline ∷ []))) ++ record_lines (fetched_count a) b
    unfolding fetch_lines
    fetch-given b = rw (eq-eqb (number a) 0 h, decimal-one 0 (omega arith)) (simp append_assoc)

  module _ (h : number a ≡ 0 → ⊥) where
    pub fetch-refused : (b : List ℕ) → fetch_lines a b ≡ number_line 70 a
    unfolding fetch_lines
    fetch-refused b = rw (ne_eqb (number a) 0 h)

  pub fits : (b : List ℕ) → fetch_fits a b ≡ true → (fetched_count a ≤ max_faults) × (fault_size * fetched_count a ≤ length b)
  unfolding fetch_fits
  fits b e =
      let n = fetched_count a in
      let few = leb n max_faults in
      let whole = leb (fault_size * n) (length b) in
      (leb-true n max_faults (both_left few whole e), leb-true (fault_size * n) (length b) (both_right few whole e))

-- the first of the records that are left
pub records-next : (n i : ℕ) (b : List ℕ) → i < n → record_lines (n - i) (drop (24 * i) b) ≡ hex_line (take 24 (drop (24 * i) b)) ++ record_lines (n - (i + 1)) (drop (24 * (i + 1)) b)
records-next n i b h =
    let e : n - i ≡ suc (n - (i + 1)) = omega arith in
    let f : 24 * (i + 1) ≡ 24 * i + 24 = omega arith in
    rw (e, f, ← drop-drop)
