-- A user's part of a run is what that user's own calls alone give: an induction that knows nothing of the machine.
use mathlib.Core.Path.{◌≡◌, refl, ap, ◌∙◌}
use mathlib.Core.Bool.{Bool, true, false, cond}
use mathlib.Core.List.{List, [], ◌∷◌}
use Rattle.laws.specs.Lists.{keep}
use Rattle.laws.specs.Runs.{after, given, every}

module _ {W P C A : Type 0} (step : W → C → A × W) (rule : P → C → A × P) (view : W → P) (own : C → Bool) (Inv : W → Type 0)
    (keeps : (w : W) (c : C) → Inv w → Inv (step w c).1)
    (others : (w : W) (c : C) → Inv w → own c ≡ false → view (step w c).1 ≡ view w)
    (answer : (w : W) (c : C) → Inv w → own c ≡ true → (step w c).0 ≡ (rule (view w) c).0)
    (next : (w : W) (c : C) → Inv w → own c ≡ true → view (step w c).1 ≡ (rule (view w) c).1) where
  pub view-after : (cs : List C) (w : W) → Inv w → view (after step w cs) ≡ after rule (view w) (keep own cs)
  view-after [] w i = refl
  view-after (c ∷ cs) w i = go (own c) refl (view-after cs (step w c).1 (keeps w c i))
    where
      go : (b : Bool) → own c ≡ b → view (after step (step w c).1 cs) ≡ after rule (view (step w c).1) (keep own cs)
          → view (after step (step w c).1 cs) ≡ after rule (view w) (cond b (c ∷ keep own cs) (keep own cs))
      go true e ih = ih ∙ ap (λ v. after rule v (keep own cs)) (next w c i e)
      go false e ih = ih ∙ ap (λ v. after rule v (keep own cs)) (others w c i e)

  pub given-alone : (cs : List C) (w : W) → Inv w → given step own w cs ≡ given rule every (view w) (keep own cs)
  given-alone [] w i = refl
  given-alone (c ∷ cs) w i = go (own c) refl (given-alone cs (step w c).1 (keeps w c i))
    where
      go : (b : Bool) → own c ≡ b → given step own (step w c).1 cs ≡ given rule every (view (step w c).1) (keep own cs)
          → cond b ((step w c).0 ∷ given step own (step w c).1 cs) (given step own (step w c).1 cs) ≡ given rule every (view w) (cond b (c ∷ keep own cs) (keep own cs))
      go true e ih = rw (ih, answer w c i e, next w c i e)
      go false e ih = rw (ih, others w c i e)

-- what every call keeps holds after a list of calls
pub kept-after : {W C A : Type 0} (step : W → C → A × W) (Inv : W → Type 0) → ((w : W) (c : C) → Inv w → Inv (step w c).1) → (cs : List C) (w : W) → Inv w → Inv (after step w cs)
kept-after step Inv keeps [] w i = i
kept-after step Inv keeps (c ∷ cs) w i = kept-after step Inv keeps cs (step w c).1 (keeps w c i)
