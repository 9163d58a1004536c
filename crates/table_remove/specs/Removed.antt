-- The table's words after records are taken out.
use Rattle.std.specs.Prelude.{ℕ, ◌-◌, ◌*◌, Bool, not, ◌&&◌, List, ◌++◌, leb, length, take, drop, replicate}
use Rattle.laws.specs.Lists.{keep}
use Rattle.rules.specs.declared.Mapping.{Mapping}
use Rattle.rules.specs.Sizes.{record_words}
use Rattle.rules.specs.Table.{records, words}

-- the record has a key from low to high and lies inside the addresses from a to b
abbrev pub within : ℕ → ℕ → ℕ → ℕ → Mapping → Bool
within low high a b r = (leb low r.key && leb r.key high) && (leb a r.start && leb r.end b)

-- the records, of the first live ones, that a removal keeps
unfoldable pub kept_of : ℕ → ℕ → ℕ → ℕ → ℕ → List ℕ → List Mapping
kept_of live low high a b ws = keep (λ r. not (within low high a b r)) (take live (records ws))

-- the table with those closed up, zeros in the places that this frees, and all else as it was
unfoldable pub removed_words : ℕ → ℕ → ℕ → ℕ → ℕ → List ℕ → List ℕ
removed_words live low high a b ws =
    words (kept_of live low high a b ws)
    ++ (replicate (record_words * (length (take live (records ws)) - length (kept_of live low high a b ws))) 0
    ++ drop (record_words * length (take live (records ws))) ws)
