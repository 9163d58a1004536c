use Prim.Native.Nat.{ℕ, ◌*◌, min}
use mathlib.Core.Path.{◌≡◌, ◌∙◌}
use mathlib.Core.List.{List}
use native.Mathlib.Omega.{arith}
use lib.ListN.{length, take}
use borrow.Author.Rules.{rules}
use Rattle.laws.proofs.Rounds.{take-least}
use Rattle.rules.specs.Sizes.{max_endpoints, endpoint_region_words, region_places}
use Rattle.rules.specs.State.{config_of}
use Rattle.journal_session.proofs.naming.start.Goals as goal

-- the words of each endpoint's regions, where no more endpoints are taken than there are places
take-regions : (n : ℕ) (l : List ℕ) → length l ≡ region_places → take (endpoint_region_words * min n max_endpoints) l ≡ take (endpoint_region_words * n) l
take-regions n l e =
    let z : endpoint_region_words * min n max_endpoints ≡ min (endpoint_region_words * n) region_places = omega arith in
    rw z (take-least (endpoint_region_words * n) region_places l e)

pub returns : goal.returns
unfolding config_of
returns c =
    let s = c.args.s.now in
    c.set_up-given.ensures
    ∙ rw (
      c.name_ranges.ensures,
      c.min-n.ensures,
      take-least s.listed max_endpoints s.endpoints (search rules),
      take-least s.listed max_endpoints s.owners (search rules),
      take-regions s.listed s.regions (search rules),
    )
