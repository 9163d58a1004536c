-- A request taken apart: its fields by its type, or its first refusal.
use Rattle.std.specs.Prelude.{ℕ, ◌≤◌, ◌≡◌, cond, List, eqb, length, Result, Ok, Err}
use Rattle.std.proofs.Math.Option.{Option, some, none}
use Rattle.laws.specs.Lists.{first_failing}
use Rattle.rules.specs.declared.Refusal.{Refusal}
use Rattle.rules.specs.declared.Refusal.TheVariants.{UnknownType}
use Rattle.rules.specs.Requests.{ATTACH, DETACH, MAP, UNMAP, PROBE, readable_length, type_of, domain_field, endpoint_field, attach_reserved, virt_start, virt_end, phys_start, map_flags, unmap_reserved, probe_endpoint, request_refusals}
use Rattle.wire_requests.specs.declared.request.MapFields.{MapFields}
use Rattle.wire_requests.specs.declared.request.UnmapFields.{UnmapFields}
use Rattle.wire_requests.specs.declared.request.Request.{Request}
use Rattle.wire_requests.specs.declared.request.Request.TheVariants.{Attach, Detach, Map, Unmap, Probe}

-- "domain 4, virt_start 8, virt_end 8, phys_start 8, flags 4", without the domain
abbrev pub map_fields : List ℕ → MapFields
map_fields r = record { start = virt_start r; end = virt_end r; phys = phys_start r; flags = map_flags r }

-- "domain 4, virt_start 8, virt_end 8, reserved 4", without the domain
abbrev pub unmap_fields : List ℕ → UnmapFields
unmap_fields r = record { start = virt_start r; end = virt_end r; reserved = unmap_reserved r }

-- the fields of the readable part r, by its type as `handle` goes by it; a request of any other type is refused
unfoldable pub asked : List ℕ → Result Request Refusal
asked r =
    cond (eqb (type_of r) ATTACH) (Ok (Attach (domain_field r) (endpoint_field r) (attach_reserved r)))
    (cond (eqb (type_of r) DETACH) (Ok (Detach (domain_field r) (endpoint_field r) (attach_reserved r)))
    (cond (eqb (type_of r) MAP) (Ok (Map (domain_field r) (map_fields r)))
    (cond (eqb (type_of r) UNMAP) (Ok (Unmap (domain_field r) (unmap_fields r)))
    (cond (eqb (type_of r) PROBE) (Ok (Probe (probe_endpoint r)))
    (Err UnknownType)))))

-- a refusal, or what is asked where there is none
unfoldable pub unless : Option Refusal → Result Request Refusal → Result Request Refusal
unless none x = x
unless (some a) x = Err a

-- the request in the readable part r, with a writable part of n bytes
unfoldable pub parsed : List ℕ → ℕ → Result Request Refusal
parsed r n = unless (first_failing (request_refusals r n)) (asked r)

-- the readable part r is of the known type t and has that type's length
pub record Whole (t : ℕ) (r : List ℕ) : Type 0 where
  pub typed : t ≡ type_of r
  pub low : ATTACH ≤ t
  pub high : t ≤ PROBE
  pub sized : length r ≡ readable_length t
