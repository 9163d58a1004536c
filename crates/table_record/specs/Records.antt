-- What the words of the table hold.
use Rattle.std.specs.Prelude.{ℕ, ◌+◌, List, [], ◌∷◌, get_or}
use Rattle.rules.specs.declared.Mapping.{Mapping}
use Rattle.rules.specs.Table.{mapping}

-- the record of five zeros
abbrev pub no_mapping : Mapping
no_mapping = mapping 0 0 0 0 0

-- the words after the last whole record, fewer than five
abbrev pub spare : List ℕ → List ℕ
spare (a ∷ b ∷ c ∷ d ∷ e ∷ ws) = spare ws
spare [] = []
spare (a ∷ []) = a ∷ []
spare (a ∷ b ∷ []) = a ∷ b ∷ []
spare (a ∷ b ∷ c ∷ []) = a ∷ b ∷ c ∷ []
spare (a ∷ b ∷ c ∷ d ∷ []) = a ∷ b ∷ c ∷ d ∷ []

-- the record in the five words from k on
abbrev pub loaded : List ℕ → ℕ → Mapping
loaded ws k = mapping (get_or ws k 0) (get_or ws (k + 1) 0) (get_or ws (k + 2) 0) (get_or ws (k + 3) 0) (get_or ws (k + 4) 0)
