-- A guest's endpoints among those listed.
use Prim.Native.Nat.{ℕ, zero, suc, ◌<◌, ◌≤◌}
use mathlib.Core.Path.{◌≡◌, refl, sym, ◌∙◌}
use mathlib.Core.List.{List, [], ◌∷◌}
use native.Mathlib.Omega.{arith}
use lib.ListN.{length, get_or, take}
use borrow.Author.Tests.{ne_eqb, lt-ltb, le-ltb}
use Rattle.laws.specs.Lists.{pick_by, tab}
use Rattle.laws.proofs.Tables.{length-tab, get_d-tab}
use Rattle.rules.specs.Sizes.{max_guests, max_endpoints}
use Rattle.sound_logs.specs.Faults.{owner_among}

-- where the owners past the first n are no guest's, guest g's elements are those among the first n
pub pick-among : {A : Type 0} (g : ℕ) → g < max_guests → (ws os : List ℕ) (l : List A) (n : ℕ) → length ws ≡ length os
    → ((j : ℕ) → j < n → get_or ws j 0 ≡ get_or os j 0) → ((j : ℕ) → n ≤ j → j < length os → get_or ws j 0 ≡ max_guests) → pick_by g ws l ≡ pick_by g (take n os) (take n l)
pick-among g h [] [] l zero e p q = refl
pick-among g h [] [] l (suc n) e p q = refl
pick-among g h [] (o ∷ os) l n e p q = absurd (omega arith)
pick-among g h (w ∷ ws) [] l n e p q = absurd (omega arith)
pick-among g h (w ∷ ws) (o ∷ os) [] zero e p q = refl
pick-among g h (w ∷ ws) (o ∷ os) [] (suc n) e p q = refl
pick-among g h (w ∷ ws) (o ∷ os) (a ∷ l) zero e p q =
    let z : w ≡ max_guests = q 0 (omega arith) (omega arith) in
    rw (z, ne_eqb max_guests g (λ k. omega arith)) (pick-among g h ws os l zero (omega arith) (λ j k. absurd (omega arith)) (λ j k m. q (suc j) (omega arith) (omega arith)))
pick-among g h (w ∷ ws) (o ∷ os) (a ∷ l) (suc n) e p q =
    let z : w ≡ o = p 0 (omega arith) in
    let again = pick-among g h ws os l n (omega arith) (λ j k. p (suc j) (omega arith)) (λ j k m. q (suc j) (omega arith) (omega arith)) in
    rw (z, again)

pub pick-listed : {A : Type 0} (g : ℕ) → g < max_guests → (n : ℕ) → n ≤ max_endpoints → (os : List ℕ) (l : List A) → length os ≡ max_endpoints → pick_by g (tab max_endpoints (owner_among n os)) l ≡ pick_by g (take n os) (take n l)
unfolding owner_among
pick-listed g h n b os l e = pick-among g h (tab max_endpoints (owner_among n os)) os l n (length-tab max_endpoints (owner_among n os) ∙ sym e) (λ j k. get_d-tab max_endpoints (owner_among n os) j 0 (omega arith) ∙ rw (lt-ltb j n k)) (λ j k m. get_d-tab max_endpoints (owner_among n os) j 0 (omega arith) ∙ rw (le-ltb j n k))
