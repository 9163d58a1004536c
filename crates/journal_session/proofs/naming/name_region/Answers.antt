use Prim.Native.Nat.{ℕ, ◌≤◌, ◌<◌, min}
use mathlib.Core.Path.{◌≡◌, sym}
use mathlib.Core.Bool.{true, false, and-false}
use mathlib.Core.List.{List}
use native.Mathlib.Omega.{arith}
use borrow.Author.Rules.{rules}
use borrow.Author.Tests.{le-ltb, lt-ltb}
use lib.ListN.{length, take, length-take}
use Rattle.rules.specs.declared.Endpoint.{Endpoint}
use Rattle.rules.specs.Sizes.{max_endpoints, max_regions}
use Rattle.rules.specs.Configuration.{region_count}
use Rattle.state_regions.specs.Held.{held_count}
use Rattle.journal_session.specs.Naming.{named_place, region_taken, region_named}
use Rattle.journal_session.proofs.naming.name_region.Goals as goal

-- what the tests say of n named endpoints
module _ (n : ℕ) (endpoints words : List ℕ) (e : Endpoint) (all : length endpoints ≡ max_endpoints) where
  abbrev place : ℕ
  place = named_place n endpoints e

  unnamed : min n max_endpoints ≤ place → false ≡ region_taken n endpoints words e
  unfolding region_taken
  unnamed h = rw (le-ltb place (length (take n endpoints)) (omega (arith, length-take n endpoints, all)))

  full : max_regions ≤ region_count words place → false ≡ region_taken n endpoints words e
  unfolding region_taken
  full h = rw (le-ltb (region_count words place) max_regions h, and-false)

  taken : place < min n max_endpoints → region_count words place < max_regions → true ≡ region_taken n endpoints words e
  unfolding region_taken
  taken h k = rw (lt-ltb place (length (take n endpoints)) (omega (arith, length-take n endpoints, all)), lt-ltb (region_count words place) max_regions k)

-- the number that the code reads of the regions of an endpoint that has a place
counted : (words : List ℕ) (i j : ℕ) → i < max_endpoints → j ≡ held_count words i → j ≡ min (region_count words i) max_regions
counted words i j h e = rw (lt-ltb i max_endpoints h) at e

pub returns-then-i-min-clause-taken : goal.returns-then-i-min-clause-taken
returns-then-i-min-clause-taken c =
    let s = c.args.s.now in
    unnamed s.listed s.endpoints s.regions c.args.e (search rules) (omega (arith, c.min.ensures, c.index_of-i.ensures))

pub returns-then-j-ge-MAX_REGIONS-clause-taken : goal.returns-then-j-ge-MAX_REGIONS-clause-taken
returns-then-j-ge-MAX_REGIONS-clause-taken c =
    let s = c.args.s.now in
    let j = counted s.regions c.index_of-i.result c.count_at-j.result (omega (arith, c.min.ensures)) c.count_at-j.ensures in
    full s.listed s.endpoints s.regions c.args.e (search rules) (rw (sym c.index_of-i.ensures) (omega (arith, j)))

pub returns-clause-taken : goal.returns-clause-taken
returns-clause-taken c =
    let s = c.args.s.now in
    let j = counted s.regions c.index_of-i.result c.count_at-j.result (omega (arith, c.min.ensures)) c.count_at-j.ensures in
    taken s.listed s.endpoints s.regions c.args.e (search rules) (omega (arith, c.min.ensures, c.index_of-i.ensures)) (rw (sym c.index_of-i.ensures) (omega (arith, j)))

pub returns-clause-named : goal.returns-clause-named
unfolding region_named
returns-clause-named c =
    let j = counted c.args.s.now.regions c.index_of-i.result c.count_at-j.result (omega (arith, c.min.ensures)) c.count_at-j.ensures in
    let n : c.count_at-j.result ≡ region_count c.args.s.now.regions c.index_of-i.result = omega (arith, j) in
    rw (c.put_region.ensures, n, c.index_of-i.ensures)
