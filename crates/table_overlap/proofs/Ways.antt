-- The two ways to stand in the way.
use Prim.Native.Nat.{ℕ}
use mathlib.Core.Path.{◌≡◌, refl}
use mathlib.Core.Bool.{true, false, and-true, and_comm}
use lib.Dec.{leb}
use Rattle.rules.specs.declared.Mapping.{Mapping}
use Rattle.rules.specs.Table.{overlap}
use Rattle.rules.specs.Handlers.{straddles, of_key}
use Rattle.table_overlap.specs.Met.{met}
use Rattle.laws.proofs.Tests.{eqb-sym}

-- records overlap where one meets the addresses of the other, those inside among them
pub met-overlaps : (r s : Mapping) → met r.key r.start r.end true s ≡ overlap r s
unfolding met overlap of_key
met-overlaps r s =
    rw (and-true, eqb-sym s.key r.key, and_comm (leb s.start r.end) (leb r.start s.end))

-- an unmapping splits those that its addresses meet, without those inside
pub met-straddles : (key a b : ℕ) (s : Mapping) → met key a b false s ≡ straddles key a b s
unfolding met straddles
met-straddles key a b s = refl
