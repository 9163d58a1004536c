-- What a PROBE of an endpoint gives and writes.
use Rattle.std.specs.Prelude.{ℕ, ◌≡◌, cond, List, eqb, length}
use Rattle.rules.specs.Sizes.{properties_size}
use Rattle.rules.specs.declared.Guest.{Guest}
use Rattle.rules.specs.declared.Endpoint.{Endpoint}
use Rattle.rules.specs.declared.State.{State}
use Rattle.refinement.specs.Flat.{endpoint_index, probe_status, probe_bytes}

-- guest g's PROBE of endpoint e gives this status, and the buffer b becomes c: the properties, where it has their length
abbrev pub Probed : State → Guest → Endpoint → (b : List ℕ) (status : ℕ) (c : List ℕ) → Type 0
Probed s g e b status c =
    (status ≡ probe_status s g (endpoint_index s e)) × (c ≡ cond (eqb (length b) properties_size) (probe_bytes s g (endpoint_index s e)) b)
