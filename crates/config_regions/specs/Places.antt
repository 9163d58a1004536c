-- The tests of an endpoint's regions, place by place.
use Rattle.std.specs.Prelude.{ℕ, ◌+◌, Bool, not, ◌&&◌, List, leb, eqb, get_or}
use Rattle.laws.specs.Lists.{below}
use Rattle.rules.specs.declared.Region.{Region}
use Rattle.rules.specs.Configuration.{MSI, meets}

-- the region in the three words from k on
abbrev pub loaded : List ℕ → ℕ → Region
loaded w k = record { subtype = get_or w k 0; start = get_or w (k + 1) 0; end = get_or w (k + 2) 0 }

-- a subtype that there is, and a start not past the end
abbrev pub formed : Region → Bool
formed q = leb q.subtype MSI && leb q.start q.end

-- not both MSI, and no address in common
abbrev pub apart : Region → Region → Bool
apart a b = not (eqb a.subtype MSI && eqb b.subtype MSI) && not (meets a.start a.end b)

-- the region at place j is formed, and apart from each before it
abbrev pub fitting : (ℕ → Region) → ℕ → Bool
fitting f j = formed (f j) && below j (λ k. apart (f k) (f j))
