-- "Request layouts", and which requests are not handled.
use Rattle.std.specs.Prelude.{ℕ, ◌-◌, Bool, cond, not, ◌&&◌, List, [], ◌∷◌, leb, ltb, eqb, length, get_or}
use Rattle.laws.specs.Bytes.{le_field}
use Rattle.rules.specs.Sizes.{status_size, probe_size}
use Rattle.rules.specs.declared.Endpoint.{Endpoint}
use Rattle.rules.specs.declared.Domain.{Domain}
use Rattle.rules.specs.declared.Refusal.{Refusal}
use Rattle.rules.specs.declared.Refusal.TheVariants.{UnknownType, WrongLength}

-- "Statuses: OK 0, IOERR 1, UNSUPP 2, DEVERR 3, INVAL 4, RANGE 5, NOENT 6, FAULT 7, NOMEM 8."
abbrev pub OK : ℕ
OK = 0

abbrev pub IOERR : ℕ
IOERR = 1

abbrev pub UNSUPP : ℕ
UNSUPP = 2

abbrev pub DEVERR : ℕ
DEVERR = 3

abbrev pub INVAL : ℕ
INVAL = 4

abbrev pub RANGE : ℕ
RANGE = 5

abbrev pub NOENT : ℕ
NOENT = 6

abbrev pub FAULT : ℕ
FAULT = 7

abbrev pub NOMEM : ℕ
NOMEM = 8

-- the types: "1 ATTACH", "2 DETACH", "3 MAP", "4 UNMAP", and "type 5", PROBE
abbrev pub ATTACH : ℕ
ATTACH = 1

abbrev pub DETACH : ℕ
DETACH = 2

abbrev pub MAP : ℕ
MAP = 3

abbrev pub UNMAP : ℕ
UNMAP = 4

abbrev pub PROBE : ℕ
PROBE = 5

-- "asks for these two lengths by type byte [..]; any other type gets 0 and 0"; "the length query gives 72 and 132"
abbrev pub readable_length : ℕ → ℕ
readable_length t = cond (eqb t ATTACH) 20 (cond (eqb t DETACH) 20 (cond (eqb t MAP) 36 (cond (eqb t UNMAP) 28 (cond (eqb t PROBE) 72 0))))

abbrev pub writable_length : ℕ → ℕ
writable_length t = cond (leb ATTACH t && leb t UNMAP) status_size (cond (eqb t PROBE) probe_size 0)

-- the status in a writable part as left: the first of its last four bytes
abbrev pub status_in : List ℕ → ℕ
status_in writable = get_or writable (length writable - status_size) 0

-- "Head: type byte, three bytes ignored." The fields after it, by the bytes' places.
abbrev pub type_of : List ℕ → ℕ
type_of r = get_or r 0 0

abbrev pub domain_field : List ℕ → Domain
domain_field r = record { 0 = le_field 4 4 r }

-- ATTACH and DETACH: domain 4, endpoint 4, reserved 8
abbrev pub endpoint_field : List ℕ → Endpoint
endpoint_field r = record { 0 = le_field 8 4 r }

abbrev pub attach_reserved : List ℕ → ℕ
attach_reserved r = le_field 12 8 r

-- MAP: domain 4, virt_start 8, virt_end 8, phys_start 8, flags 4. UNMAP: domain 4, virt_start 8, virt_end 8, reserved 4
abbrev pub virt_start : List ℕ → ℕ
virt_start r = le_field 8 8 r

abbrev pub virt_end : List ℕ → ℕ
virt_end r = le_field 16 8 r

abbrev pub phys_start : List ℕ → ℕ
phys_start r = le_field 24 8 r

abbrev pub map_flags : List ℕ → ℕ
map_flags r = le_field 32 4 r

abbrev pub unmap_reserved : List ℕ → ℕ
unmap_reserved r = le_field 24 4 r

-- PROBE: "head, endpoint 4, 64 ignored"
abbrev pub probe_endpoint : List ℕ → Endpoint
probe_endpoint r = record { 0 = le_field 4 4 r }

-- "Requests: 1, 2, 4 (below 4 bytes), 3, 4 (lengths)": the last three, of the readable part r and a writable part of n bytes
abbrev pub request_refusals : List ℕ → ℕ → List (Bool × Refusal)
request_refusals r n =
    -- "readable part below 4 bytes"
    (ltb (length r) 4, WrongLength)
    -- "refusal 3 is for types not 1 to 5"
    ∷ (not (leb ATTACH (type_of r) && leb (type_of r) PROBE), UnknownType)
    -- "a part's length not the type's"
    ∷ (not (eqb (length r) (readable_length (type_of r))), WrongLength)
    ∷ (not (eqb n (writable_length (type_of r))), WrongLength)
    ∷ []
