-- Laws of the table's words after a record is put in.
use Prim.Native.Nat.{ℕ, suc, ◌+◌, ◌<◌, ◌≤◌}
use mathlib.Core.Path.{◌≡◌, refl, ap}
use mathlib.Core.Bool.{Bool, true, false, cond}
use mathlib.Core.List.{List, [], ◌∷◌, ◌++◌, append_assoc}
use native.Mathlib.Omega.{arith}
use native.Mathlib.Numerals.{add-one}
use lib.Dec.{ltb}
use lib.ListN.{length, take, drop}
use borrow.Author.Tests.{lt-ltb}
use Rattle.rules.specs.declared.Mapping.{Mapping}
use Rattle.rules.specs.Sizes.{max_records}
use Rattle.rules.specs.Table.{records, words, table_of, before, insert_mapping}
use Rattle.rules.proofs.Words.{length-records}
use Rattle.rules.proofs.Records.{length-insert}
use Rattle.table_record.specs.Records.{spare}
use Rattle.table_record.proofs.Stored.{words_append, drop-words}
use Rattle.table_record.proofs.Tables.{length-table, table-live, table-drop, table_is}
use Rattle.table_insert.specs.Inserted.{mapping_index, insert_at, inserted_words}

-- a record in its place
pub insert-place : (r : Mapping) (l : List Mapping) → insert_at (mapping_index r l) r l ≡ insert_mapping r l
insert-place r [] = refl
insert-place r (s ∷ l) = go (before r s) (insert-place r l)
  where
    go : (b : Bool) → insert_at (mapping_index r l) r l ≡ insert_mapping r l → insert_at (cond b 0 (suc (mapping_index r l))) r (s ∷ l) ≡ cond b (r ∷ s ∷ l) (s ∷ insert_mapping r l)
    go true e = refl
    go false e = ap (λ (m : List Mapping). s ∷ m) e

module _ (live : ℕ) (r : Mapping) (ws : List ℕ) (h : live < length (records ws)) where
  pub inserted-words : inserted_words live r ws ≡ words (insert_mapping r (take live (records ws)) ++ drop (live + 1) (records ws)) ++ spare ws
  unfolding inserted_words
  inserted-words = rw (lt-ltb live (length (records ws)) h, words_append, append_assoc, drop-words ws (live + 1) (omega arith))

-- a record put into a whole table
pub inserted-table : (r : Mapping) (l : List Mapping) → length l < max_records → inserted_words (length l) r (table_of l) ≡ table_of (insert_mapping r l)
unfolding inserted_words
inserted-table r l h =
    let k : length l ≤ max_records = omega arith in
    let m : ltb (length l) (length (records (table_of l))) ≡ true = lt-ltb (length l) (length (records (table_of l))) (omega (arith, length-records (table_of l), length-table l k)) in
    rw (m, table-live l k, table-drop l k (length l + 1) (omega arith), table_is (insert_mapping r l), length-insert r l, ← add-one (length l))
