-- What handling a request gives and writes.
use Rattle.std.specs.Prelude.{ℕ, ◌≡◌, cond, List, eqb, length}
use Rattle.rules.specs.declared.Guest.{Guest}
use Rattle.rules.specs.State.{Device}
use Rattle.wire_requests.specs.declared.request.Request.{Request}
use Rattle.refinement.specs.Flat.{StatusAndDevice}
use Rattle.refinement.specs.Requesting.{handle, bytes_before}

-- request q on device d gives x, and the buffer b, where it has room for just the bytes before the status, becomes c
abbrev pub Handled : Device → Guest → Request → (b : List ℕ) (x : StatusAndDevice) (c : List ℕ) → Type 0
Handled d g q b x c = (x ≡ handle d g q) × (c ≡ cond (eqb (length b) (length (bytes_before d g q))) (bytes_before d g q) b)
