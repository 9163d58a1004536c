-- What functions of several crates show at their returns, as laws on states and words.
use Prim.Native.Nat.{ℕ}
use mathlib.Core.Path.{◌≡◌, sym}
use mathlib.Core.List.{List}
use lib.ListN.{length}
use borrow.Author.Tests.{ne_eqb}
use Rattle.rules.specs.declared.State.{State}
use Rattle.rules.specs.State.{Device}
use Rattle.table_remove.specs.Removed.{kept_of, removed_words}
use Rattle.state_fields.specs.Fields.{with_live}
use Rattle.refinement.specs.Flat.{device, with_status, settled, removed}

pub removed-is : (s : State) (ws vs : List ℕ) (low high a b n : ℕ) → n ≡ length (kept_of s.live low high a b ws) → vs ≡ removed_words s.live low high a b ws → device (with_live n s) vs ≡ removed (device s ws) low high a b
unfolding removed
removed-is s ws vs low high a b n e f = rw (e, f)

-- a request that a step fails leaves all as it was; else what was worked
pub settled-fails : (n m : ℕ) (d e : Device) → n ≡ m → (n ≡ 0 → ⊥) → with_status n d ≡ settled m d e
settled-fails n m d e x h = rw (sym x, ne_eqb n 0 h)

pub settled-works : (n m : ℕ) (d e f : Device) → n ≡ m → n ≡ 0 → f ≡ e → with_status 0 f ≡ settled m d e
settled-works n m d e f x h y = rw (sym x, h, y)
