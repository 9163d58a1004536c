use borrow.Author.Tests.{lt-leb, le-leb, eq-eqb, ne_eqb}
use mathlib.Core.Path.{◌≡◌, refl}
use mathlib.Core.Bool.{not, and-true}
use lib.Dec.{eqb}
use lib.ListN.{length, take, length-take}
use Rattle.laws.specs.Lists.{pairwise}
use Rattle.rules.specs.Sizes.{max_endpoints}
use Rattle.rules.specs.Configuration.{good_lists}
use Rattle.laws.proofs.Rounds.{take-least}
use Rattle.config_endpoints.proofs.good_lists.Goals as goal

pub returns-then-a-b : goal.returns-then-a-b
unfolding good_lists
returns-then-a-b c =
    let a = c.args in
    rw (
      length-take a.n a.endpoints.now,
      length-take a.n a.owners.now,
      ← c.min-a.ensures,
      ← c.min-b.ensures,
      ne_eqb c.min-a.result c.min-b.result c.if-a-b.true,
    )

pub returns-then-a-gt-MAX_ENDPOINTS : goal.returns-then-a-gt-MAX_ENDPOINTS
unfolding good_lists
returns-then-a-gt-MAX_ENDPOINTS c =
    let a = c.args in
    rw (
      length-take a.n a.endpoints.now,
      length-take a.n a.owners.now,
      ← c.min-a.ensures,
      ← c.min-b.ensures,
      eq-eqb c.min-a.result c.min-b.result c.if-a-b.false,
      lt-leb c.min-a.result max_endpoints c.if-a-gt-MAX_ENDPOINTS.true,
    )

pub returns : goal.returns
unfolding good_lists
returns c =
    let a = c.args in
    let E = a.endpoints.now in
    let O = a.owners.now in
    let m = c.min-a.result in
    let p : take m E ≡ take a.n E = rw c.min-a.ensures (take-least a.n (length E) E refl) in
    let q : take m O ≡ take a.n O = rw (c.if-a-b.false, c.min-b.ensures) (take-least a.n (length O) O refl) in
    rw (
      c.distinct.ensures,
      c.owners_below.ensures,
      p,
      q,
      length-take a.n E,
      length-take a.n O,
      ← c.min-a.ensures,
      ← c.min-b.ensures,
      eq-eqb m c.min-b.result c.if-a-b.false,
      le-leb m max_endpoints c.if-a-gt-MAX_ENDPOINTS.false,
      and-true (pairwise (λ x y. not (eqb x y)) (take a.n E)),
    )
