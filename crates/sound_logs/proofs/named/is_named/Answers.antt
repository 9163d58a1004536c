use native.Mathlib.Omega.{arith}
use Prim.Native.Nat.{ℕ, ◌%◌}
use mathlib.Core.Path.{◌≡◌, sym}
use mathlib.Core.Bool.{Bool, true, ◌&&◌}
use lib.Dec.{eqb}
use lib.ListN.{get_or}
use borrow.Author.Tests.{eqb-true, eq-eqb}
use Rattle.laws.proofs.Tests.{both_left, both_right}
use Rattle.rules.specs.Handlers.{listed}
use Rattle.laws.proofs.Owned.{owned_at-any}
use Rattle.sound_logs.proofs.named.is_named.Goals as goal

pub returns-then-owners-j : goal.returns-then-owners-j
unfolding listed
returns-then-owners-j c =
    let a = c.args in
    let j : ℕ = get_or a.hints.now (a.e.0 % 64) 0 % 32 in
    let o : Bool = eqb (get_or a.owners.now j 0) a.g.0 in
    let e : Bool = eqb (get_or a.s.now.endpoints j 0) a.e.0 in
    let t : (o && e) ≡ true = c.if-owners-j.true in
    sym
    (owned_at-any (eqb a.e.0) 0 a.g.0 a.owners.now a.s.now.endpoints j (omega arith) (omega arith) (both_left o e t)
    (eq-eqb a.e.0 (get_or a.s.now.endpoints j 0) (sym (eqb-true (get_or a.s.now.endpoints j 0) a.e.0 (both_right o e t)))))
