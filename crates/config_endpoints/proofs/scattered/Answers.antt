use native.Mathlib.Numerals.{add-one}
use Prim.Native.Nat.{◌+◌}
use mathlib.Core.Path.{◌≡◌, refl}
use mathlib.Core.List.{[], ◌∷◌, ◌++◌}
use lib.ListN.{take, get_or}
use lib.Seq.{take-suc, take_all}
use borrow.Author.Tests.{not-true}
use Rattle.config_endpoints.proofs.Marking.{Marked, marked-none, marked_next, apart_next}
use Rattle.config_endpoints.proofs.scattered.Goals as goal

pub loop-endpoint-init : goal.loop-endpoint-init
loop-endpoint-init c = (marked-none, λ h. refl)

pub loop-endpoint-preserved : goal.loop-endpoint-preserved
loop-endpoint-preserved c =
    let l = c.loop-endpoint in
    let L = take c.args.n c.args.endpoints.now in
    let i = l.endpoint-index in
    let e = get_or L i 0 in
    let m : Marked l.seen (take i L) = l.invariant.0 in
    let t : take (i + 1) L ≡ take i L ++ (e ∷ []) = rw (add-one i) (take-suc L i 0 c.loop-endpoint-test.true) in
    (rw t (marked_next l.seen (take i L) e m), λ h. rw t (apart_next l.seen (take i L) e l.repeated m l.invariant.1 h))

pub returns : goal.returns
returns c h =
    let l = c.loop-endpoint in
    rw (take_all l.endpoint-index (take c.args.n c.args.endpoints.now) c.loop-endpoint-test.false) at (l.invariant.1 (not-true l.repeated h))
