use native.Mathlib.Omega.{arith}
use Prim.Native.Nat.{ℕ, ◌+◌, ◌*◌}
use mathlib.Core.Path.{◌≡◌, ap, ◌∙◌}
use lib.ListN.{get_or}
use Rattle.rules.specs.Sizes.{region_words, endpoint_region_words}
use Rattle.rules.specs.Configuration.{region_word}
use Rattle.config_regions.proofs.region_of.Goals as goal

pub returns : goal.returns
returns c =
    let a = c.args in
    let w = a.words.now in
    let at : ℕ = endpoint_region_words * a.i + 1 + region_words * a.j in
    let x : get_or w at 0 ≡ region_word w a.i a.j 0 = ap (λ (k : ℕ). get_or w k 0) (omega arith) in
    let y : get_or w (at + 1) 0 ≡ region_word w a.i a.j 1 = ap (λ (k : ℕ). get_or w k 0) (omega arith) in
    let z : get_or w (at + 2) 0 ≡ region_word w a.i a.j 2 = ap (λ (k : ℕ). get_or w k 0) (omega arith) in
    c.load.ensures ∙ rw (x, y, z)
