use native.Mathlib.Omega.{arith}
use Prim.Native.Nat.{ℕ}
use mathlib.Core.Path.{◌≡◌, refl, sym, ◌∙◌}
use mathlib.Core.Bool.{false}
use mathlib.Core.List.{List, [], ◌∷◌}
use lib.ListN.{length, take}
use borrow.Author.Tests.{le-ltb}
use Rattle.laws.specs.Lists.{any?}
use Rattle.rules.specs.declared.Mapping.{Mapping}
use Rattle.rules.specs.declared.Region.{Region}
use Rattle.rules.specs.Table.{records}
use Rattle.state_regions.specs.Held.{held_regions}
use Rattle.state_regions.proofs.Regions.{asked-next, asked-all}
use Rattle.table_reserved.specs.Reserved.{region_met, regions_met}
use Rattle.table_reserved.proofs.regions_met.Goals as goal

-- no record, so none on a region
none-met : (key : ℕ) (l : List Mapping) (qs : List Region) → length l ≡ 0 → false ≡ any? (region_met key l) qs
unfolding region_met
none-met key l [] e = refl
none-met key l (q ∷ qs) e = rw (le-ltb 0 (length l) (omega arith)) (none-met key l qs e)

pub returns-then-bounded-eq0 : goal.returns-then-bounded-eq0
unfolding regions_met
returns-then-bounded-eq0 c =
    let a = c.args in
    none-met a.key (take a.live (records a.t.now)) (held_regions a.regions.now a.i) (sym c.bounded.ensures.0 ∙ c.if-bounded-eq0.true)

pub loop-j-preserved : goal.loop-j-preserved
loop-j-preserved c =
    let l = c.loop-j in
    let a = c.args in
    (l.invariant.0, asked-next (region_met a.key (take a.live (records a.t.now))) a.regions.now a.i l.met _ l.j l.invariant.1 (omega (arith, l.invariant.0)) (rw (c.region_met-met.ensures, c.region_at.ensures)))

pub returns : goal.returns
unfolding regions_met
returns c =
    let l = c.loop-j in
    let a = c.args in
    asked-all (region_met a.key (take a.live (records a.t.now))) a.regions.now a.i l.met l.j l.invariant.1 (omega (arith, l.invariant.0))
