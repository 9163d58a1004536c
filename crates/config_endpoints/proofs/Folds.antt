-- What a fold over a slice shows that tests each element, after one has failed too.
use mathlib.Core.Path.{◌≡◌, refl, sym, ap, ◌∙◌}
use mathlib.Core.Bool.{Bool, true, ◌&&◌}
use Rattle.std.specs.declared.option.Option.{Option}
use mathlib.Core.List.{List}
use denote.Param.Members.{Mut}
use Rattle.std.specs.Fn.{Called}
use Rattle.std.specs.Iterator.{Drains}
use Rattle.std.specs.List.{fold, FoldsTo}
use Rattle.std.proofs.lemmas.Fn.{fold_over}
use Rattle.std.proofs.lemmas.Iterator.{YieldsList}
use Rattle.std.proofs.lemmas.List.Sums.{fold_push}
use Rattle.laws.specs.Lists.{all?}
use Rattle.laws.proofs.Chains.{all-folded}

pub all-of-fold : {S A B F : Type 0} {steps : S → Option A → S → Type 0} {v : A → B} {g : Mut F (Bool × (A × Unit {0})) Bool} {s : S} {l : List B} (q : B → Bool) (f : F) (r : Bool)
    → (xs : List A) × (h : F) × Drains steps s xs × FoldsTo {P = F × Bool} (λ p x z. Called g p.0 (p.1, (x, tt)) z.1 z.0) (f, true) xs (h, r)
    → YieldsList steps v s l → ((a : Bool) (x : A) (b : Bool) (h : F) → Called g f (a, (x, tt)) b h → (h ≡ f) × (b ≡ (a && q (v x)))) → r ≡ all? q l
all-of-fold {B} {steps} {v} {g} {s} {l} q f r ran road turn =
    let t : Bool → B → Bool = λ a x. a && q x in
    fold_over steps v g (λ ys a. a ≡ fold t true ys) f (λ ys a x b h e k. let w = turn a x b h k in (w.1 ∙ ap (λ z. z && q (v x)) e ∙ sym (fold_push t true ys (v x)), w.0)) s l true r road.runs refl ran
    ∙ all-folded q l true
