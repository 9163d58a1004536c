-- The table's words with a record stored.
use Rattle.std.specs.Prelude.{ℕ, ◌+◌, List, set}
use Rattle.rules.specs.declared.Mapping.{Mapping}

-- the words with a record stored in the five from k on
abbrev pub stored : List ℕ → ℕ → Mapping → List ℕ
stored ws k r = set (set (set (set (set ws k r.key) (k + 1) r.start) (k + 2) r.end) (k + 3) r.phys) (k + 4) r.flags
