-- The whole table: records in front, and all other words zero.
use Prim.Native.Nat.{ℕ, zero, suc, ◌+◌, ◌-◌, ◌*◌, ◌≤◌}
use mathlib.Core.Path.{◌≡◌, refl, ap, ◌∙◌}
use mathlib.Core.List.{List, ◌++◌}
use native.Mathlib.Omega.{arith}
use lib.ListN.{length, take, drop, replicate, length-append, length-replicate}
use lib.Seq.{take_at, drop-append-add}
use Rattle.rules.specs.declared.Mapping.{Mapping}
use Rattle.rules.specs.Sizes.{record_words, max_records, table_words}
use Rattle.rules.specs.Table.{records, words, table_of}
use Rattle.rules.proofs.Words.{length-words}
use Rattle.table_record.specs.Records.{no_mapping}
use Rattle.table_record.proofs.Stored.{words_append, words-zero, records-words}

drop-replicate : {A : Type 0} (m n : ℕ) (z : A) → drop m (replicate n z) ≡ replicate (n - m) z
drop-replicate zero n z = let e : n ≡ n - 0 = omega arith in ap (λ (k : ℕ). replicate k z) e
drop-replicate (suc m) zero z = let e : 0 ≡ 0 - suc m = omega arith in ap (λ (k : ℕ). replicate k z) e
drop-replicate (suc m) (suc n) z = let e : n - m ≡ suc n - suc m = omega arith in drop-replicate m n z ∙ ap (λ (k : ℕ). replicate k z) e

module _ (l : List Mapping) (h : length l ≤ max_records) where
  -- the places of the table, as records
  table-words : table_of l ≡ words (l ++ replicate (max_records - length l) no_mapping)
  unfolding table_of
  table-words =
      let e : table_words - record_words * length l ≡ record_words * (max_records - length l) = omega arith in
      rw (words_append, words-zero, e)

  table-records : records (table_of l) ≡ l ++ replicate (max_records - length l) no_mapping
  table-records = ap records table-words ∙ records-words _

  pub length-table : length (table_of l) ≡ table_words
  unfolding table_of
  length-table = rw (length-append, length-words, length-replicate) (omega arith)

  pub table-live : take (length l) (records (table_of l)) ≡ l
  table-live = rw table-records (take_at l _ (length l) refl)

  -- past the records all words are zero
  pub table-drop : (n : ℕ) → length l ≤ n → drop (record_words * n) (table_of l) ≡ replicate (table_words - record_words * n) 0
  unfolding table_of
  table-drop n k =
      let s = table_words - record_words * length l in
      let m = record_words * n - record_words * length l in
      let e : record_words * n ≡ length (words l) + m = omega (arith, length-words l) in
      let f : s - m ≡ table_words - record_words * n = omega arith in
      ap (λ (i : ℕ). drop {A = ℕ} i (words l ++ replicate s 0)) e ∙ drop-append-add (words l) (replicate s 0) m ∙ drop-replicate {A = ℕ} m s 0 ∙ ap (λ (i : ℕ). replicate {A = ℕ} i 0) f

pub table_is : (l : List Mapping) → table_of l ≡ words l ++ replicate (table_words - record_words * length l) 0
unfolding table_of
table_is l = refl
