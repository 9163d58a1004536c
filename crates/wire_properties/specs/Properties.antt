-- The properties that PROBE writes, as the code puts them: of any region, a byte for its subtype.
use Rattle.std.specs.Prelude.{ℕ, ◌%◌, List, [], ◌∷◌, ◌++◌}
use Rattle.rules.specs.declared.Region.{Region}
use Rattle.rules.specs.Handlers.{property_bytes}

-- the bytes of a region's property
unfoldable pub property_put : Region → List ℕ
property_put q = property_bytes (record { subtype = q.subtype % 256; start = q.start; end = q.end })

-- the bytes of the regions' properties, one after another
abbrev pub properties_put : List Region → List ℕ
properties_put [] = []
properties_put (q ∷ l) = property_put q ++ properties_put l
