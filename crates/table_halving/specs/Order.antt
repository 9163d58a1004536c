-- The order in which a table can be searched by halving.
use Rattle.std.specs.Prelude.{◌≡◌, true, List, ltb}
use Rattle.laws.specs.Lists.{all?, pairwise}
use Rattle.rules.specs.declared.Mapping.{Mapping}
use Rattle.rules.specs.Table.{before, apart}

-- records "ascending by first word, then by virt_start", of which no two of one guest and domain overlap, and none of which is empty
-- (MAP's step 3), as those of a sound table are
pub record InOrder (l : List Mapping) : Type 0 where
  pub order : pairwise before l ≡ true
  pub disjoint : pairwise apart l ≡ true
  pub filled : all? (λ r. ltb r.start r.end) l ≡ true
