-- The table's words after a record is put in.
use Rattle.std.specs.Prelude.{ℕ, suc, ◌+◌, ◌*◌, cond, List, [], ◌∷◌, ◌++◌, ltb, length, take, drop}
use Rattle.rules.specs.declared.Mapping.{Mapping}
use Rattle.rules.specs.Sizes.{record_words}
use Rattle.rules.specs.Table.{records, words, before, insert_mapping}

-- how many records stand before the first that r goes before
abbrev pub mapping_index : Mapping → List Mapping → ℕ
mapping_index r [] = 0
mapping_index r (s ∷ l) = cond (before r s) 0 (suc (mapping_index r l))

-- x at place n of a list
abbrev pub insert_at : {A : Type 0} → ℕ → A → List A → List A
insert_at n x l = take n l ++ x ∷ drop n l

-- the table with r in its place among the first live records; one with no room for it stays as it is
unfoldable pub inserted_words : ℕ → Mapping → List ℕ → List ℕ
inserted_words live r ws =
    cond (ltb live (length (records ws)))
    (words (insert_mapping r (take live (records ws))) ++ drop (record_words * (live + 1)) ws)
    ws
