use native.Mathlib.Omega.{arith}
use Prim.Native.Nat.{min}
use mathlib.Core.Path.{◌≡◌}
use lib.ListN.{length}
use Rattle.refinement.specs.Flat as flat
use Rattle.call_map.proofs.reserved.on_regions.Goals as goal

pub returns : goal.returns
unfolding flat.on_regions
returns c =
    let s = c.args.s.now in
    let e : c.loop-i.i ≡ min (length s.owners) (min (length s.attached) (length s.domains)) = omega arith in
    rw e at c.loop-i.invariant
