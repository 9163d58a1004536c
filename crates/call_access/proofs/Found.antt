-- A record that lets an access through, as the lookup finds it.
use Prim.Native.Nat.{ℕ, ◌≤◌}
use mathlib.Core.Path.{◌≡◌}
use mathlib.Core.List.{List}
use mathlib.Core.Option.{some}
use Rattle.laws.proofs.Filters.{found-passes}
use Rattle.rules.specs.declared.Mapping.{Mapping}
use Rattle.rules.specs.declared.Access.{Access}
use Rattle.rules.specs.Access.{permits, find_mapping}
use Rattle.rules.proofs.Accesses.{permits-covers}

-- it starts no later than the address
pub starts_before : (key : ℕ) (a : Access) (l : List Mapping) (r : Mapping) → find_mapping key a l ≡ some r → r.start ≤ a.address
unfolding find_mapping
starts_before key a l r e = (permits-covers key a r (found-passes (permits key a) l r e)).from
