-- What a request writes before its status, and the room that there is for it.
use Prim.Native.Nat.{ℕ, zero, suc, ◌+◌, ◌≤◌}
use mathlib.Core.Path.{◌≡◌, refl, ap, ◌∙◌}
use mathlib.Core.Bool.{Bool, true, false, cond}
use mathlib.Core.List.{List, [], ◌∷◌}
use mathlib.Core.Option.{none}
use native.Mathlib.Omega.{arith}
use lib.Dec.{eqb}
use lib.ListN.{length, get_or, replicate, length-replicate}
use borrow.Author.Tests.{eqb-true, not-false, ne_eqb}
use Rattle.std.specs.Prelude.{Result, Ok}
use Rattle.laws.specs.Lists.{first_failing, pad}
use Rattle.laws.proofs.Tests.{cleared}
use Rattle.laws.proofs.Tables.{length-tab}
use Rattle.rules.specs.declared.Guest.{Guest}
use Rattle.rules.specs.declared.State.{State}
use Rattle.rules.specs.declared.Refusal.{Refusal}
use Rattle.rules.specs.Sizes.{status_size, properties_size}
use Rattle.rules.specs.Requests.{request_refusals, type_of, writable_length}
use Rattle.rules.specs.State.{Device}
use Rattle.wire_requests.specs.declared.request.Request.{Request}
use Rattle.wire_requests.specs.Parsed.{asked, parsed}
use Rattle.wire_requests.proofs.Laws.{known-type, parsed-asked}
use Rattle.wire_properties.specs.Properties.{properties_put}
use Rattle.state_regions.specs.Held.{held_regions}
use Rattle.refinement.specs.Flat.{owned_at, probe_bytes}
use Rattle.refinement.specs.Requesting.{bytes_before}
use Rattle.refinement.proofs.Stepped.{taken}

-- PROBE writes 128 bytes before its status
pub length-probe : (s : State) (g : Guest) (i : ℕ) → length (probe_bytes s g i) ≡ properties_size
unfolding probe_bytes
length-probe s g i = go (owned_at s g i) (properties_put (held_regions s.regions i))
  where
    go : (b : Bool) (l : List ℕ) → length (cond b (pad properties_size 0 l) (replicate properties_size 0)) ≡ properties_size
    go true l = length-tab properties_size (λ k. get_or l k 0)
    go false l = length-replicate {A = ℕ} properties_size 0

-- a request that writes nothing before its status leaves what there is
pub none_before : (b : List ℕ) → b ≡ cond (eqb (length b) 0) [] b
none_before [] = refl
none_before (x ∷ b) = rw (ne_eqb (length (x ∷ b)) 0 (omega arith))

-- what is known of the bytes before the status
pub ruleset handling = (none_before, length-probe)

module _ (d : Device) (g : Guest) where
  -- what a request writes before its status
  abbrev before : Result Request Refusal → List ℕ
  before x = taken (λ (q : Request). bytes_before d g q) [] x

  -- there is room for it, and for the status
  room : (r : List ℕ) (n : ℕ) → first_failing (request_refusals r n) ≡ none → n ≡ length (before (asked r)) + status_size
  unfolding asked bytes_before
  room r n f =
      let k = known-type r n f in
      let whole : n ≡ writable_length (type_of r) = eqb-true n (writable_length (type_of r)) (not-false _ (cleared (request_refusals r n) f).1.1.1.0) in
      whole ∙ go (type_of r) refl k.0 k.1
    where
      go : (t : ℕ) → type_of r ≡ t → 1 ≤ t → t ≤ 5 → writable_length (type_of r) ≡ length (before (asked r)) + status_size
      go zero e l h = absurd (omega arith)
      go (suc zero) e l h = rw e
      go (suc (suc zero)) e l h = rw e
      go (suc (suc (suc zero))) e l h = rw e
      go (suc (suc (suc (suc zero)))) e l h = rw e
      go (suc (suc (suc (suc (suc zero))))) e l h = rw (e, length-probe d.state g _)
      go (suc (suc (suc (suc (suc (suc t)))))) e l h = absurd (omega arith)

  -- so there is for a request as it is parsed
  pub room_parsed : (q : Request) (r : List ℕ) (n : ℕ) → Ok q ≡ parsed r n → n ≡ length (bytes_before d g q) + status_size
  room_parsed q r n e =
      let p = parsed-asked q r n e in
      room r n p.0 ∙ ap (λ (x : Result Request Refusal). length (before x) + status_size) p.1
