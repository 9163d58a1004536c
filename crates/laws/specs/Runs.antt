-- A list of calls worked in order, each given what the last one left.
use Rattle.std.specs.Prelude.{Bool, true, cond, List, [], ◌∷◌}

-- what is left after the calls
abbrev pub after : {W C A : Type 0} → (W → C → A × W) → W → List C → W
after step w [] = w
after step w (c ∷ cs) = after step (step w c).1 cs

-- what the calls that pass the test are answered, in order
abbrev pub given : {W C A : Type 0} → (W → C → A × W) → (C → Bool) → W → List C → List A
given step own w [] = []
given step own w (c ∷ cs) = cond (own c) ((step w c).0 ∷ given step own (step w c).1 cs) (given step own (step w c).1 cs)

-- the test that every call passes
abbrev pub every : {C : Type 0} → C → Bool
every c = true
