-- Laws of requests taken apart.
use Prim.Native.Nat.{ℕ, zero, suc, ◌≤◌}
use mathlib.Core.Path.{◌≡◌, refl}
use mathlib.Core.Bool.{◌&&◌}
use mathlib.Core.List.{List}
use mathlib.Core.Option.{Option, some, none}
use native.Mathlib.Omega.{arith}
use lib.Dec.{leb}
use borrow.Author.Tests.{leb-true, not-false}
use Rattle.std.specs.Prelude.{Ok, Err}
use Rattle.laws.specs.Lists.{first_failing}
use Rattle.laws.proofs.Tests.{both_left, both_right, cleared}
use Rattle.rules.specs.declared.Refusal.{Refusal}
use Rattle.rules.specs.Requests.{ATTACH, PROBE, request_refusals, type_of}
use Rattle.wire_requests.specs.declared.request.Request.{Request}
use Rattle.wire_requests.specs.Parsed.{asked, unless, parsed}

-- a request with no failing step is of a known type
pub known-type : (r : List ℕ) (n : ℕ) → first_failing (request_refusals r n) ≡ none → (ATTACH ≤ type_of r) × (type_of r ≤ PROBE)
known-type r n e =
    let k = not-false (leb ATTACH (type_of r) && leb (type_of r) PROBE) (cleared (request_refusals r n) e).1.0 in
    (leb-true ATTACH (type_of r) (both_left (leb ATTACH (type_of r)) _ k), leb-true (type_of r) PROBE (both_right (leb ATTACH (type_of r)) _ k))

-- one of a known type is not refused for its type
pub asked-known : (r : List ℕ) (a : Refusal) → ATTACH ≤ type_of r → type_of r ≤ PROBE → asked r ≡ Err a → ⊥
unfolding asked
asked-known r a low high x = go (type_of r) refl low high
  where
    go : (t : ℕ) → type_of r ≡ t → 1 ≤ t → t ≤ 5 → ⊥
    go zero e l h = omega arith
    go (suc zero) e l h = let y = rw e at x in cc
    go (suc (suc zero)) e l h = let y = rw e at x in cc
    go (suc (suc (suc zero))) e l h = let y = rw e at x in cc
    go (suc (suc (suc (suc zero)))) e l h = let y = rw e at x in cc
    go (suc (suc (suc (suc (suc zero))))) e l h = let y = rw e at x in cc
    go (suc (suc (suc (suc (suc (suc t)))))) e l h = omega arith

-- a request that is parsed has no failing step, and its fields are what is asked
pub parsed-asked : (q : Request) (r : List ℕ) (n : ℕ) → Ok q ≡ parsed r n → (first_failing (request_refusals r n) ≡ none) × (asked r ≡ Ok q)
unfolding parsed
parsed-asked q r n = go (first_failing (request_refusals r n)) refl
  where
    go : (m : Option Refusal) → first_failing (request_refusals r n) ≡ m → Ok q ≡ unless m (asked r) → (first_failing (request_refusals r n) ≡ none) × (asked r ≡ Ok q)
    go none x y = unfold unless in (x, cc)
    go (some a) x y = unfold unless in absurd cc
