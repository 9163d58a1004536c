-- The words of a table that is rewritten, and the records that they hold.
use Prim.Native.Nat.{ℕ, zero, suc, ◌*◌, ◌/◌, ◌<◌, ◌≤◌}
use mathlib.Core.Path.{◌≡◌, refl, sym, ap, ◌∙◌}
use mathlib.Core.List.{List, [], ◌∷◌, ◌++◌, append-nil}
use native.Mathlib.Omega.{arith}
use lib.ListN.{length, drop, set, replicate}
use lib.Seq.{set_out}
use Rattle.rules.specs.declared.Mapping.{Mapping}
use Rattle.rules.specs.Sizes.{record_words}
use Rattle.rules.specs.Table.{records, words}
use Rattle.rules.proofs.Words.{length-records}
use Rattle.table_record.specs.Records.{no_mapping, spare}
use Rattle.table_record.proofs.Words.{next-record, five, few, split-words, spare-few}
use Rattle.table_record.specs.Stored.{stored}

pub words_append : (l m : List Mapping) → words (l ++ m) ≡ words l ++ words m
words_append [] m = refl
words_append (r ∷ l) m = ap (λ (ws : List ℕ). r.key ∷ r.start ∷ r.end ∷ r.phys ∷ r.flags ∷ ws) (words_append l m)

pub words-zero : (n : ℕ) → words (replicate n no_mapping) ≡ replicate (record_words * n) 0
words-zero zero = refl
words-zero (suc n) = rw (five n) (ap (λ (l : List ℕ). 0 ∷ 0 ∷ 0 ∷ 0 ∷ 0 ∷ l) (words-zero n))

-- words of records with fewer than five words after them
module _ (s : List ℕ) (h : length s < record_words) where
  records-of : (l : List Mapping) → records (words l ++ s) ≡ l
  records-of [] = (few s h).0
  records-of (r ∷ l) = ap (λ (m : List Mapping). r ∷ m) (records-of l)

  spare_of : (l : List Mapping) → spare (words l ++ s) ≡ s
  spare_of [] = (few s h).1
  spare_of (r ∷ l) = spare_of l

-- words that are those of records and the spare words of others
pub wrote : (ws vs : List ℕ) (l : List Mapping) → vs ≡ words l ++ spare ws → (records vs ≡ l) × (spare vs ≡ spare ws)
wrote ws vs l e = (ap records e ∙ records-of (spare ws) (spare-few ws) l, ap spare e ∙ spare_of (spare ws) (spare-few ws) l)

-- words of records with any words after them
module _ (s : List ℕ) where
  stored_of : (l : List Mapping) (i : ℕ) (r : Mapping) → i < length l → stored (words l ++ s) (5 * i) r ≡ words (set l i r) ++ s
  stored_of [] i r h = absurd (omega arith)
  stored_of (x ∷ l) zero r h = refl
  stored_of (x ∷ l) (suc i) r h =
      rw (next-record i 1, next-record i 2, next-record i 3, next-record i 4, five i)
      (ap (λ (ws : List ℕ). x.key ∷ x.start ∷ x.end ∷ x.phys ∷ x.flags ∷ ws) (stored_of l i r (omega arith)))

  drop_of : (l : List Mapping) (n : ℕ) → n ≤ length l → drop (record_words * n) (words l ++ s) ≡ words (drop n l) ++ s
  drop_of l zero h = refl
  drop_of [] (suc n) h = absurd (omega arith)
  drop_of (r ∷ l) (suc n) h = rw (five n) (drop_of l n (omega arith))

-- the same of any words
module _ (ws : List ℕ) where
  pub stored-record : (i : ℕ) (r : Mapping) → i < length (records ws) → stored ws (5 * i) r ≡ words (set (records ws) i r) ++ spare ws
  stored-record i r h = ap (λ (vs : List ℕ). stored vs (5 * i) r) (sym (split-words ws)) ∙ stored_of (spare ws) (records ws) i r h

  -- past the last record nothing is stored
  pub stored_past : (i : ℕ) (r : Mapping) → length (records ws) ≤ i → ws ≡ words (set (records ws) i r) ++ spare ws
  stored_past i r h = rw (set_out (records ws) i r h) (sym (split-words ws))

  pub drop-words : (n : ℕ) → n ≤ length (records ws) → drop (record_words * n) ws ≡ words (drop n (records ws)) ++ spare ws
  drop-words n h = ap (λ (vs : List ℕ). drop (record_words * n) vs) (sym (split-words ws)) ∙ drop_of (spare ws) (records ws) n h

pub same-records : (vs ws : List ℕ) → length vs ≡ length ws → length (records vs) ≡ length (records ws)
same-records vs ws e = length-records vs ∙ ap (λ (n : ℕ). n / record_words) e ∙ sym (length-records ws)

pub records-words : (l : List Mapping) → records (words l) ≡ l
records-words l = ap records (sym (append-nil (words l))) ∙ records-of [] (omega arith) l
