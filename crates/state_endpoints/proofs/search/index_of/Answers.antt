use native.Mathlib.Omega.{arith}
use Rattle.std.proofs.lemmas.Grind.{common_steps}
use borrow.Author.Rules.{rules}
use mathlib.Core.Path.{◌≡◌, refl, sym, ◌∙◌}
use lib.ListN.{length, take, length-take}
use Rattle.std.proofs.Common.{tests}
use Rattle.std.proofs.lemmas.Iterator.{IsFirst-from_position, YieldsList-from_slice, index_from_first}
use Rattle.state_endpoints.specs.Search.{index_of}
use Rattle.state_endpoints.proofs.Searching.{index-here, index-past}
use Rattle.state_endpoints.proofs.search.index_of.Goals as goal

pub returns : goal.returns
returns c =
    let e = c.args.e.0 in
    let X = take c.args.n c.args.endpoints.now in
    let m : c.min-m.result ≡ length X = omega (arith, length-take c.args.n c.args.endpoints.now) in
    let first = IsFirst-from_position _ _ _ (λ k. k ≡ e) (λ k. k ≡ e → ⊥) c.position.ensures.ran (YieldsList-from_slice X (c.iter.ensures.rest ∙ grind (arith, common_steps))) (λ x q k. search (rules, tests)) (λ x q k. search (rules, tests)) in
    c.unwrap_or.ensures ∙ rw m (sym (index_from_first (index_of e) (λ k. k ≡ e) (λ k. k ≡ e → ⊥) refl (index-here e) (index-past e) X c.position.result first))
