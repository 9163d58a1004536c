-- A word of the reserved regions as the start state holds it.
use Rattle.std.specs.Prelude.{ℕ, cond, List, get_or}
use Rattle.rules.specs.Configuration.{region_used}

-- word k of the regions of n endpoints: zero where it is not in use
abbrev pub kept_word : ℕ → List ℕ → ℕ → ℕ
kept_word n words k = cond (region_used n words k) (get_or words k 0) 0
