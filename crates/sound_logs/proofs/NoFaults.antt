-- Where no log has a fault, all places for faults are zero.
use Prim.Native.Nat.{ℕ, ◌+◌, ◌/◌, ◌%◌}
use mathlib.Core.Path.{◌≡◌, refl, ◌∙◌}
use mathlib.Core.Bool.{Bool, true, false, ◌&&◌, and-true, and-false}
use native.Mathlib.Nat.{zero-add}
use native.Mathlib.Omega.{arith}
use lib.Bits.{bit_or}
use lib.Dec.{eqb}
use lib.ListN.{get_or}
use borrow.Author.Tests.{eqb-true, le-ltb}
use Rattle.laws.specs.Lists.{every?, below}
use Rattle.laws.proofs.Bits.{or-zero}
use Rattle.laws.proofs.Tables.{below_at}
use Rattle.laws.proofs.Rounds.{below-same}
use Rattle.rules.specs.declared.State.{State}
use Rattle.rules.specs.Sizes.{max_guests, max_faults, fault_places}
use Rattle.rules.specs.State.{config_of, fault_at}
use Rattle.rules.specs.Sound.{fault_zero, fault_place_good, log_tests}

-- a log that has no fault has all its places zero
pub no-faults : (s : State) → below max_guests (λ g. eqb (get_or s.logged g 0) 0) ≡ true → every? (log_tests s) ≡ below fault_places (λ i. fault_zero (fault_at s (0 + i)))
unfolding fault_place_good
no-faults s h =
    and-true (below fault_places (fault_place_good (config_of s) s))
    ∙ below-same fault_places (fault_place_good (config_of s) s) (λ i. fault_zero (fault_at s (0 + i)))
    (λ i k.
    let none : get_or s.logged (i / max_faults) 0 ≡ 0 = eqb-true _ 0 (below_at max_guests _ (i / max_faults) h (omega arith)) in
    rw (none, le-ltb (i % max_faults) 0 (omega arith), zero-add i))

-- one more place, where the bits of its numbers are gathered
pub zero-round : (reason flags source address narrow broad : ℕ)
    → (eqb (bit_or (bit_or reason (bit_or flags source)) narrow) 0 && eqb (bit_or address broad) 0)
    ≡ (((eqb reason 0 && eqb flags 0) && (eqb source 0 && eqb address 0)) && (eqb narrow 0 && eqb broad 0))
zero-round reason flags source address narrow broad =
    rw (or-zero (bit_or reason (bit_or flags source)) narrow, or-zero reason (bit_or flags source), or-zero flags source, or-zero address broad)
    (go (eqb reason 0) (eqb flags 0) (eqb source 0) (eqb address 0) (eqb narrow 0) (eqb broad 0))
  where
    go : (r f s a n b : Bool) → (((r && (f && s)) && n) && (a && b)) ≡ (((r && f) && (s && a)) && (n && b))
    go true true true true n b = refl
    go true true true false n b = and-false n
    go true true false a n b = refl
    go true false s a n b = refl
    go false f s a n b = refl
