-- The words of records and the records of words.
use Prim.Native.Nat.{ℕ, zero, suc, ◌-◌, ◌*◌, ◌/◌, ◌≤◌}
use mathlib.Core.Path.{◌≡◌, refl, ap}
use mathlib.Core.Bool.{true}
use mathlib.Core.List.{List, [], ◌∷◌, ◌++◌}
use native.Mathlib.Omega.{arith}
use lib.Dec.{eqb}
use lib.ListN.{length, take, drop, replicate, length-append, length-replicate}
use lib.Seq.{drop_at}
use Rattle.laws.specs.Lists.{all?}
use Rattle.rules.specs.declared.Mapping.{Mapping}
use Rattle.rules.specs.Sizes.{record_words, table_words}
use Rattle.rules.specs.Table.{records, words, table_of}
use Rattle.rules.specs.Sound.{zero_from}

pub length-words : (l : List Mapping) → length (words l) ≡ record_words * length l
length-words [] = refl
length-words (r ∷ l) = omega (arith, length-words l)

pub take-records : (l : List Mapping) (z : List ℕ) → take (length l) (records (words l ++ z)) ≡ l
take-records [] z = refl
take-records (r ∷ l) z = ap (λ m. r ∷ m) (take-records l z)

pub length-records : (ws : List ℕ) → length (records ws) ≡ length ws / record_words
length-records [] = refl
length-records (a ∷ []) = refl
length-records (a ∷ b ∷ []) = refl
length-records (a ∷ b ∷ c ∷ []) = refl
length-records (a ∷ b ∷ c ∷ d ∷ []) = refl
length-records (a ∷ b ∷ c ∷ d ∷ e ∷ ws) = omega (arith, length-records ws)

-- the words of a table's first n records, and the words after them
pub words-split : (n : ℕ) (ws : List ℕ) → record_words * n ≤ length ws → words (take n (records ws)) ++ drop (record_words * n) ws ≡ ws
words-split zero ws h = refl
words-split (suc n) [] h = absurd (omega arith)
words-split (suc n) (a ∷ []) h = absurd (omega arith)
words-split (suc n) (a ∷ b ∷ []) h = absurd (omega arith)
words-split (suc n) (a ∷ b ∷ c ∷ []) h = absurd (omega arith)
words-split (suc n) (a ∷ b ∷ c ∷ d ∷ []) h = absurd (omega arith)
words-split (suc n) (a ∷ b ∷ c ∷ d ∷ e ∷ ws) h = rw five (ap (λ (l : List ℕ). a ∷ b ∷ c ∷ d ∷ e ∷ l) (words-split n ws (omega arith)))
  where
    five : record_words * suc n ≡ suc (suc (suc (suc (suc (record_words * n)))))
    five = omega arith

pub zeros : (n : ℕ) → all? (eqb 0) (replicate n 0) ≡ true
zeros zero = refl
zeros (suc n) = zeros n

pub length-table_of : (l : List Mapping) → record_words * length l ≤ table_words → length (table_of l) ≡ table_words
unfolding table_of
length-table_of l h = simp (length-append, length-words, length-replicate) (omega arith)

pub zero-table_of : (l : List Mapping) → zero_from (record_words * length l) (table_of l) ≡ true
unfolding table_of zero_from
zero-table_of l = rw (drop_at (words l) (replicate (table_words - record_words * length l) 0) (record_words * length l) (length-words l)) (zeros (table_words - record_words * length l))

pub records-table_of : (l : List Mapping) → take (length l) (records (table_of l)) ≡ l
unfolding table_of
records-table_of l = take-records l (replicate (table_words - record_words * length l) 0)
