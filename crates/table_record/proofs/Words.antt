-- The words of a table and the records that they hold.
use Prim.Native.Nat.{ℕ, zero, suc, ◌+◌, ◌*◌, ◌<◌}
use mathlib.Core.Path.{◌≡◌, refl, sym, ap, ◌∙◌}
use mathlib.Core.List.{List, [], ◌∷◌, ◌++◌}
use native.Mathlib.Omega.{arith}
use lib.ListN.{length, get_or}
use Rattle.rules.specs.declared.Mapping.{Mapping}
use Rattle.rules.specs.Sizes.{record_words}
use Rattle.rules.specs.Table.{records, words}
use Rattle.table_record.specs.Records.{no_mapping, spare, loaded}

pub next-record : (i k : ℕ) → 5 * suc i + k ≡ suc (suc (suc (suc (suc (5 * i + k)))))
next-record i k = omega arith

pub five : (i : ℕ) → 5 * suc i ≡ suc (suc (suc (suc (suc (5 * i)))))
five i = omega arith

-- induction by five words: a list of fewer than five, and five words more
by-five : (P : List ℕ → Type 0) → ((ws : List ℕ) → length ws < record_words → P ws)
    → ((a b c d e : ℕ) (ws : List ℕ) → P ws → P (a ∷ b ∷ c ∷ d ∷ e ∷ ws)) → (ws : List ℕ) → P ws
by-five P short more [] = short [] (omega arith)
by-five P short more (a ∷ []) = short (a ∷ []) (omega arith)
by-five P short more (a ∷ b ∷ []) = short (a ∷ b ∷ []) (omega arith)
by-five P short more (a ∷ b ∷ c ∷ []) = short (a ∷ b ∷ c ∷ []) (omega arith)
by-five P short more (a ∷ b ∷ c ∷ d ∷ []) = short (a ∷ b ∷ c ∷ d ∷ []) (omega arith)
by-five P short more (a ∷ b ∷ c ∷ d ∷ e ∷ ws) = more a b c d e ws (by-five P short more ws)

-- fewer than five words hold no record, and are spare
pub few : (ws : List ℕ) → length ws < record_words → (records ws ≡ []) × (spare ws ≡ ws)
few [] h = (refl, refl)
few (a ∷ []) h = (refl, refl)
few (a ∷ b ∷ []) h = (refl, refl)
few (a ∷ b ∷ c ∷ []) h = (refl, refl)
few (a ∷ b ∷ c ∷ d ∷ []) h = (refl, refl)
few (a ∷ b ∷ c ∷ d ∷ e ∷ ws) h = absurd (omega arith)

-- the words are those of the records, then the spare ones
pub split-words : (ws : List ℕ) → words (records ws) ++ spare ws ≡ ws
split-words =
    by-five (λ ws. words (records ws) ++ spare ws ≡ ws)
    (λ ws h. rw (few ws h).0 (few ws h).1)
    (λ a b c d e ws i. ap (λ (l : List ℕ). a ∷ b ∷ c ∷ d ∷ e ∷ l) i)

pub spare-few : (ws : List ℕ) → length (spare ws) < record_words
spare-few = by-five (λ ws. length (spare ws) < record_words) (λ ws h. rw (few ws h).1 h) (λ a b c d e ws i. i)

-- the record at place i of words of records with any words after them
loaded-of : (s : List ℕ) (l : List Mapping) (i : ℕ) → i < length l → loaded (words l ++ s) (5 * i) ≡ get_or l i no_mapping
loaded-of s [] i h = absurd (omega arith)
loaded-of s (r ∷ l) zero h = refl
loaded-of s (r ∷ l) (suc i) h = rw (next-record i 1, next-record i 2, next-record i 3, next-record i 4, five i) (loaded-of s l i (omega arith))

pub loaded-record : (ws : List ℕ) (i : ℕ) → i < length (records ws) → loaded ws (5 * i) ≡ get_or (records ws) i no_mapping
loaded-record ws i h = ap (λ (vs : List ℕ). loaded vs (5 * i)) (sym (split-words ws)) ∙ loaded-of (spare ws) (records ws) i h
