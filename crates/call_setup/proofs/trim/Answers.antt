use borrow.Author.Rules.{rules}
use Prim.Native.Nat.{◌-◌}
use mathlib.Core.Path.{◌≡◌, refl}
use lib.ListN.{length, replicate}
use Rattle.rules.specs.State.{trimmed}
use Rattle.call_setup.proofs.Started.{unused-zero}
use Rattle.call_setup.proofs.trim.Goals as goal

pub returns : goal.returns
unfolding trimmed
returns c =
    let s = c.args.s in
    let k = c.min-used.result in
    let a : c.fill.new.self ≡ replicate (length s.shares - k) 0 = search rules in
    let b : c.fill-2.new.self ≡ replicate (length s.firsts - k) 0 = search rules in
    let d : c.fill-3.new.self ≡ replicate (length s.lasts - k) 0 = search rules in
    rw (
      unused-zero s.guests k s.shares c.fill.new.self _ (search rules) c.min-used.ensures a refl,
      unused-zero s.guests k s.firsts c.fill-2.new.self _ (search rules) c.min-used.ensures b refl,
      unused-zero s.guests k s.lasts c.fill-3.new.self _ (search rules) c.min-used.ensures d refl,
    )
