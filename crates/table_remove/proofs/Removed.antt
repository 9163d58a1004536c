-- Laws of the table's words after records are taken out.
use Prim.Native.Nat.{ℕ, zero, suc, ◌+◌, ◌-◌, ◌*◌, ◌≤◌}
use mathlib.Core.Path.{◌≡◌, refl, sym, ap, ◌∙◌}
use mathlib.Core.Bool.{Bool, not}
use mathlib.Core.List.{List, [], ◌∷◌, ◌++◌}
use native.Mathlib.Omega.{arith}
use lib.ListN.{length, take, drop, replicate, length-take, replicate-append-replicate}
use borrow.Rule.Slice.PartMut.{mid_of, put_mid}
use Rattle.laws.specs.Lists.{keep}
use Rattle.laws.proofs.Filters.{length-keep}
use Rattle.rules.specs.declared.Mapping.{Mapping}
use Rattle.rules.specs.Sizes.{record_words, max_records, table_words}
use Rattle.rules.specs.Table.{records, words, table_of}
use Rattle.rules.proofs.Words.{length-records}
use Rattle.table_record.specs.Records.{spare}
use Rattle.table_record.proofs.Words.{five, split-words}
use Rattle.table_record.proofs.Tables.{table-live, table-drop, table_is}
use Rattle.table_remove.specs.Removed.{within, kept_of, removed_words}
use Rattle.table_remove.proofs.Closing.{take-bounded, filled}

-- the first words of records with any words after them
take-of : (s : List ℕ) (l : List Mapping) (n : ℕ) → n ≤ length l → take (record_words * n) (words l ++ s) ≡ words (take n l)
take-of s l zero h = refl
take-of s [] (suc n) h = absurd (omega arith)
take-of s (r ∷ l) (suc n) h = rw (five n) (ap (λ (ws : List ℕ). r.key ∷ r.start ∷ r.end ∷ r.phys ∷ r.flags ∷ ws) (take-of s l n (omega arith)))

pub take_words : (ws : List ℕ) (n : ℕ) → n ≤ length (records ws) → take (record_words * n) ws ≡ words (take n (records ws))
take_words ws n h = ap (λ (vs : List ℕ). take (record_words * n) vs) (sym (split-words ws)) ∙ take-of (spare ws) (records ws) n h

module _ (live low high a b : ℕ) (ws : List ℕ) where
  kept-fit : length (kept_of live low high a b ws) ≤ length (take live (records ws))
  unfolding kept_of
  kept-fit = length-keep _ (take live (records ws))

  pub kept-bounded : kept_of (length (take live (records ws))) low high a b ws ≡ kept_of live low high a b ws
  unfolding kept_of
  kept-bounded = rw (take-bounded live (records ws))

-- what is left when those kept stand in front and the words from there to the last live record came back zero
pub removed-by : (live low high a b : ℕ) (ws vs ms : List ℕ) (n k : ℕ) → n ≡ length (take live (records ws)) → length vs ≡ length ws
    → k ≡ length (kept_of live low high a b ws) → take (5 * k) vs ≡ words (kept_of live low high a b ws) → drop (5 * n) vs ≡ drop (5 * n) ws
    → ms ≡ replicate (length (mid_of (5 * k) (5 * n - 5 * k) vs)) 0 → put_mid (5 * k) (5 * n - 5 * k) vs ms ≡ removed_words live low high a b ws
unfolding removed_words
removed-by live low high a b ws vs ms n k en ev ek et ed em =
    let m : k ≤ n = omega (arith, kept-fit live low high a b ws) in
    let f : 5 * n ≤ length vs = omega (arith, length-take live (records ws), length-records ws) in
    let z : 5 * n - 5 * k ≡ 5 * (length (take live (records ws)) - length (kept_of live low high a b ws)) = omega arith in
    rw (filled 0 (5 * k) (5 * n) vs ms (omega arith) f em, et, ed, z, en)

-- records taken out of a whole table
pub removed-table : (low high a b : ℕ) (l : List Mapping) → length l ≤ max_records → removed_words (length l) low high a b (table_of l) ≡ table_of (keep (λ r. not (within low high a b r)) l)
unfolding removed_words kept_of
removed-table low high a b l h =
    let q : Mapping → Bool = λ r. not (within low high a b r) in
    let e : record_words * (length l - length (keep q l)) + (table_words - record_words * length l) ≡ table_words - record_words * length (keep q l) = omega (arith, length-keep q l) in
    rw (table-live l h, table-drop l h (length l) (omega arith), table_is (keep q l), replicate-append-replicate, e)
