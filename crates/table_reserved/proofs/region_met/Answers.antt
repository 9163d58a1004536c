use native.Mathlib.Omega.{arith}
use Prim.Native.Nat.{◌<◌}
use mathlib.Core.Path.{sym}
use lib.ListN.{length, take, length-take}
use lib.Seq.{get_or-take}
use borrow.Author.Tests.{lt-ltb, le-ltb}
use Rattle.rules.specs.Table.{records, overlap}
use Rattle.table_record.specs.Records.{no_mapping}
use Rattle.table_search.specs.Halving.{last_up_to}
use Rattle.table_search.proofs.Ordered.{last_within}
use Rattle.table_reserved.specs.Reserved.{region_met}
use Rattle.table_reserved.proofs.region_met.Goals as goal

pub returns-then-bounded-eq0 : goal.returns-then-bounded-eq0
unfolding region_met
returns-then-bounded-eq0 c =
    let l = take c.args.live (records c.args.t.now) in
    rw (le-ltb 0 (length l) (omega (arith, c.if-bounded-eq0.true, c.bounded.ensures.0)))

pub returns : goal.returns
unfolding region_met overlap
returns c =
    let a = c.args in
    let l = take a.live (records a.t.now) in
    let some : 0 < length l = omega (arith, c.if-bounded-eq0.false, c.bounded.ensures.0) in
    let place : last_up_to a.key a.q.end l < a.live = omega (arith, last_within a.key a.q.end l some, length-take a.live (records a.t.now)) in
    rw (lt-ltb 0 (length l) some, get_or-take a.live (records a.t.now) (last_up_to a.key a.q.end l) no_mapping place, sym c.last_up_to.ensures, sym c.get-r.ensures)
