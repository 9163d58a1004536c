-- "What each request does, first failing step wins", on one guest's own part of the device.
use Rattle.std.specs.Prelude.{ℕ, ◌+◌, ◌-◌, ◌%◌, ◌^◌, Bool, false, cond, not, ◌&&◌, ◌||◌, List, [], ◌∷◌, ◌++◌, leb, ltb, eqb, length, replicate}
use Rattle.std.proofs.Math.Option.{Option, some, none}
use Rattle.std.specs.Int.Count.{count_trailing_zeros}
use Rattle.laws.specs.Lists.{any?, keep, first_failing, pad}
use Rattle.laws.specs.Bytes.{le_bytes}
use Rattle.rules.specs.declared.Endpoint.{Endpoint}
use Rattle.rules.specs.declared.Domain.{Domain}
use Rattle.rules.specs.declared.Mapping.{Mapping}
use Rattle.rules.specs.declared.Region.{Region}
use Rattle.rules.specs.Sizes.{properties_size}
use Rattle.rules.specs.Configuration.{meets}
use Rattle.rules.specs.Table.{key_of, mapping, overlap, insert_mapping}
use Rattle.rules.specs.State.{Attachment}
use Rattle.rules.specs.Guests.{Own, Part, with_attachments, with_records}
use Rattle.rules.specs.Requests.{OK, UNSUPP, DEVERR, INVAL, RANGE, NOENT, FAULT, NOMEM, ATTACH, DETACH, MAP, UNMAP, PROBE, type_of, domain_field, endpoint_field, attach_reserved, virt_start, virt_end, phys_start, map_flags, unmap_reserved, probe_endpoint}

-- STEPS AND STATUSES

-- a request's steps: each a test that fails the request, and the status that it then gets
abbrev pub Steps : Type 0
Steps = List (Bool × ℕ)

-- the status of a step that fails, OK where none does
abbrev pub or_ok : Option ℕ → ℕ
or_ok none = OK
or_ok (some s) = s

-- "first failing step wins"
abbrev pub status_of : Steps → ℕ
status_of l = or_ok (first_failing l)

-- "Any status but OK changes nothing": the status, with q where it is OK, else with p
unfoldable pub settle : ℕ → Part → Part → ℕ × Part
settle s p q = (s, cond (eqb s OK) q p)

-- DOMAINS AND ENDPOINTS

-- x lies outside the addresses, or numbers, from a to b
unfoldable pub outside : ℕ → ℕ → ℕ → Bool
outside a b x = ltb x a || ltb b x

-- the attachment is to domain d
unfoldable pub is_in : Domain → Attachment → Bool
is_in d none = false
is_in d (some e) = eqb e.0 d.0

-- "A domain exists for a guest exactly while at least one of its endpoints is attached to it." (document 01's term)
unfoldable pub domain_exists : Domain → List Attachment → Bool
domain_exists d l = any? (is_in d) l

-- endpoint e is among the guest's own
unfoldable pub listed : Endpoint → List ℕ → Bool
listed e es = any? (eqb e.0) es

-- the attachment of endpoint e, where es are the endpoints of the attachments l
abbrev pub attachment_of : Endpoint → List ℕ → List Attachment → Attachment
attachment_of e [] l = none
attachment_of e (k ∷ es) [] = none
attachment_of e (k ∷ es) (a ∷ l) = cond (eqb k e.0) a (attachment_of e es l)

-- the attachments with that of endpoint e become b
abbrev pub attached_as : Endpoint → Attachment → List ℕ → List Attachment → List Attachment
attached_as e b [] l = l
attached_as e b (k ∷ es) [] = []
attached_as e b (k ∷ es) (a ∷ l) = cond (eqb k e.0) (b ∷ l) (a ∷ attached_as e b es l)

-- the record is of the guest and domain that the key names
unfoldable pub of_key : ℕ → Mapping → Bool
of_key key r = eqb r.key key

-- the records without those that pass the test: the one removal of UNMAP, DETACH, moves and reset
unfoldable pub without : (Mapping → Bool) → List Mapping → List Mapping
without q l = keep (λ r. not (q r)) l

-- endpoint e leaves domain d; "When the last endpoint leaves a domain, all its records go."
unfoldable pub leave : Own → Endpoint → Domain → Part → Part
leave o e d p =
    with_attachments (attached_as e none o.endpoints p.attachments)
    (with_records (without (λ r. not (domain_exists d (attached_as e none o.endpoints p.attachments)) && of_key (key_of o.guest d) r) p.records) p)

-- endpoint e, in no domain, enters domain d
unfoldable pub enter : Own → Endpoint → Domain → Part → Part
enter o e d p = with_attachments (attached_as e (some d) o.endpoints p.attachments) p

-- "In another: first as DETACH from there."
unfoldable pub move_from : Own → Endpoint → Attachment → Part → Part
move_from o e none p = p
move_from o e (some d) p = leave o e d p

-- "Already in this domain: OK, no change. In another: first as DETACH from there. Then attached, OK."
unfoldable pub attached : Own → Endpoint → Domain → Part → Part
attached o e d p =
    cond (is_in d (attachment_of e o.endpoints p.attachments)) p
    (enter o e d (move_from o e (attachment_of e o.endpoints p.attachments) p))

-- RESERVED REGIONS

-- the regions of endpoint e, where es are the endpoints with the regions rs
abbrev pub regions_of : Endpoint → List ℕ → List (List Region) → List Region
regions_of e [] rs = []
regions_of e (k ∷ es) [] = []
regions_of e (k ∷ es) (q ∷ rs) = cond (eqb k e.0) q (regions_of e es rs)

-- the regions "of any endpoint in the domain" d, where l are the attachments of the endpoints with the regions rs
abbrev pub regions_in : Domain → List Attachment → List (List Region) → List Region
regions_in d [] rs = []
regions_in d (a ∷ l) [] = []
regions_in d (a ∷ l) (q ∷ rs) = cond (is_in d a) (q ++ regions_in d l rs) (regions_in d l rs)

-- the record overlaps one of the regions
unfoldable pub on_region : List Region → Mapping → Bool
on_region l r = any? (meets r.start r.end) l

-- ATTACH

-- ATTACH's chain of steps, over what their tests give
abbrev pub attach_chain : (reserved unlisted beyond barred : Bool) → Steps
attach_chain reserved unlisted beyond barred =
    -- "reserved not zero, INVAL"
    (reserved, INVAL)
    -- "Endpoint not listed or not this guest's, NOENT"
    ∷ (unlisted, NOENT)
    -- "Domain outside the range, RANGE"
    ∷ (beyond, RANGE)
    -- "ATTACH to a domain the endpoint isn't in [..] whose records overlap the endpoint's regions is UNSUPP, after the RANGE step"
    ∷ (barred, UNSUPP)
    ∷ []

-- the tests of ATTACH, in order
abbrev pub attach_steps : Own → Part → Domain → Endpoint → ℕ → Steps
attach_steps o p d e reserved =
    attach_chain
    (not (eqb reserved 0))
    (not (listed e o.endpoints))
    (outside o.domains.start o.domains.end d.0)
    (not (is_in d (attachment_of e o.endpoints p.attachments))
    && any? (λ r. of_key (key_of o.guest d) r && on_region (regions_of e o.endpoints o.regions) r) p.records)

-- "Then attached, OK."
unfoldable pub handle_attach : Own → Part → Domain → Endpoint → ℕ → ℕ × Part
handle_attach o p d e reserved = settle (status_of (attach_steps o p d e reserved)) p (attached o e d p)

-- DETACH

-- DETACH's chain of steps, over what their tests give
abbrev pub detach_chain : (reserved unlisted elsewhere : Bool) → Steps
detach_chain reserved unlisted elsewhere =
    -- "reserved not zero, INVAL"
    (reserved, INVAL)
    -- "Endpoint as above, NOENT"
    ∷ (unlisted, NOENT)
    -- "Not attached to this domain, INVAL"
    ∷ (elsewhere, INVAL)
    ∷ []

-- the tests of DETACH, in order
abbrev pub detach_steps : Own → Part → Domain → Endpoint → ℕ → Steps
detach_steps o p d e reserved =
    detach_chain
    (not (eqb reserved 0))
    (not (listed e o.endpoints))
    (not (is_in d (attachment_of e o.endpoints p.attachments)))

-- "Else detached, OK."
unfoldable pub handle_detach : Own → Part → Domain → Endpoint → ℕ → ℕ × Part
handle_detach o p d e reserved = settle (status_of (detach_steps o p d e reserved)) p (leave o e d p)

-- MAP

-- "g is the lowest set bit of page_size_mask, as a number."
unfoldable pub granularity : ℕ → ℕ
granularity mask = 2 ^ count_trailing_zeros 64 mask

-- x is "a multiple of g", the granularity of the mask
abbrev pub aligned : ℕ → ℕ → Bool
aligned mask x = eqb (x % granularity mask) 0

-- the chain of MAP's steps 2 to 6, which are about a record alone, over what their tests give
abbrev pub form_chain : (flags order grain input window : Bool) → Steps
form_chain flags order grain input window =
    -- "2. a flag bit other than READ (1) and WRITE (2): INVAL"
    (flags, INVAL)
    -- "3. virt_end ≤ virt_start: RANGE"
    ∷ (order, RANGE)
    -- "4. virt_start or virt_end + 1 not a multiple of g: RANGE", which "forgot phys_start. The standard aligns virt_start,
    -- phys_start and virt_end + 1."
    ∷ (grain, RANGE)
    -- "5. any address outside the input range: RANGE"
    ∷ (input, RANGE)
    -- "6. phys_start or phys_start + virt_end − virt_start outside the guest's window: FAULT"
    ∷ (window, FAULT)
    ∷ []

-- their tests of the record r, in order
unfoldable pub form_steps : Own → Mapping → Steps
form_steps o r =
    form_chain
    (ltb 3 r.flags)
    (leb r.end r.start)
    (not (aligned o.mask r.start) || (not (aligned o.mask r.phys) || not (aligned o.mask (r.end + 1))))
    (outside o.input.start o.input.end r.start || outside o.input.start o.input.end r.end)
    (outside o.first o.last r.phys || outside o.first o.last (r.phys + r.end - r.start))

-- the chain of MAP's steps 1 to 6
abbrev pub record_chain : (missing : Bool) (form : Steps) → Steps
record_chain missing form =
    -- "1. domain doesn't exist for this guest: NOENT"
    (missing, NOENT)
    ∷ form

-- their tests, which soundness asks of every record too
abbrev pub record_steps : Own → List Attachment → Domain → Mapping → Steps
record_steps o l d r = record_chain (not (domain_exists d l)) (form_steps o r)

-- MAP's chain of steps, where form is that of steps 2 to 6
abbrev pub map_chain : (missing : Bool) (form : Steps) (taken barred full : Bool) → Steps
map_chain missing form taken barred full =
    record_chain missing form
    -- "7. overlaps a record of this domain: INVAL"
    ++ (taken, INVAL)
    -- "a step between 7 and 8: overlapping a region of any endpoint in the domain is INVAL"
    ∷ (barred, INVAL)
    -- "8. guest already holds its share: NOMEM"
    ∷ (full, NOMEM)
    ∷ []

-- the tests of MAP, in order
abbrev pub map_steps : Own → Part → Domain → Mapping → Steps
map_steps o p d r =
    map_chain
    (not (domain_exists d p.attachments))
    (form_steps o r)
    (any? (overlap r) p.records)
    (on_region (regions_in d p.attachments o.regions) r)
    (leb o.share (length p.records))

-- "Else recorded, OK."
unfoldable pub handle_map : Own → Part → Domain → Mapping → ℕ × Part
handle_map o p d r = settle (status_of (map_steps o p d r)) p (with_records (insert_mapping r p.records) p)

-- UNMAP

-- a record of the key's domain inside the range from a to b
unfoldable pub inside : ℕ → ℕ → ℕ → Mapping → Bool
inside key a b r = of_key key r && (leb a r.start && leb r.end b)

-- a record of the key's domain that the range meets, "partly inside and partly outside the range"
unfoldable pub straddles : ℕ → ℕ → ℕ → Mapping → Bool
straddles key a b r = (of_key key r && (leb r.start b && leb a r.end)) && not (inside key a b r)

-- UNMAP's chain of steps, over what their tests give
abbrev pub unmap_chain : (missing reserved order cut : Bool) → Steps
unmap_chain missing reserved order cut =
    -- "domain doesn't exist, NOENT"
    (missing, NOENT)
    -- "reserved not zero, INVAL"
    ∷ (reserved, INVAL)
    -- "virt_end < virt_start, RANGE"
    ∷ (order, RANGE)
    -- "some record of this guest's domain partly inside and partly outside the range, RANGE"
    ∷ (cut, RANGE)
    ∷ []

-- the tests of UNMAP, in order
abbrev pub unmap_steps : Own → Part → Domain → ℕ → ℕ → ℕ → Steps
unmap_steps o p d a b reserved =
    unmap_chain
    (not (domain_exists d p.attachments))
    (not (eqb reserved 0))
    (ltb b a)
    (any? (straddles (key_of o.guest d) a b) p.records)

-- "else every record of that domain inside the range goes, OK, even if there are none"
unfoldable pub handle_unmap : Own → Part → Domain → ℕ → ℕ → ℕ → ℕ × Part
handle_unmap o p d a b reserved =
    settle (status_of (unmap_steps o p d a b reserved)) p (with_records (without (inside (key_of o.guest d) a b) p.records) p)

-- PROBE

-- the step of PROBE
abbrev pub probe_steps : Own → Endpoint → Steps
probe_steps o e =
    -- "NOENT (endpoint as in ATTACH)"
    (not (listed e o.endpoints), NOENT)
    ∷ []

-- "a property of type 1, length 20: subtype (0 reserved, 1 MSI), three zeros, start, end"
unfoldable pub property_bytes : Region → List ℕ
property_bytes q = le_bytes 2 1 ++ (le_bytes 2 20 ++ (q.subtype ∷ 0 ∷ 0 ∷ 0 ∷ le_bytes 8 q.start ++ le_bytes 8 q.end))

-- "Each, in set-up order, is a property"
abbrev pub properties_of : List Region → List ℕ
properties_of [] = []
properties_of (q ∷ l) = property_bytes q ++ properties_of l

-- "Property bytes left over are zero; with NOENT [..] all 128 are written zero."
unfoldable pub probed : Own → Endpoint → List ℕ
probed o e = cond (listed e o.endpoints) (pad properties_size 0 (properties_of (regions_of e o.endpoints o.regions))) (replicate properties_size 0)

-- BY TYPE

-- the record that a MAP request asks for
abbrev pub asked_for : Own → List ℕ → Mapping
asked_for o r = mapping (key_of o.guest (domain_field r)) (virt_start r) (virt_end r) (phys_start r) (map_flags r)

-- the request in the readable part r, by its type; a request of any other type is refused before, and changes nothing here
unfoldable pub handle : Own → Part → List ℕ → ℕ × Part
handle o p r =
    cond (eqb (type_of r) ATTACH) (handle_attach o p (domain_field r) (endpoint_field r) (attach_reserved r))
    (cond (eqb (type_of r) DETACH) (handle_detach o p (domain_field r) (endpoint_field r) (attach_reserved r))
    (cond (eqb (type_of r) MAP) (handle_map o p (domain_field r) (asked_for o r))
    (cond (eqb (type_of r) UNMAP) (handle_unmap o p (domain_field r) (virt_start r) (virt_end r) (unmap_reserved r))
    (cond (eqb (type_of r) PROBE) (status_of (probe_steps o (probe_endpoint r)), p)
    (DEVERR, p)))))

-- the bytes that a request writes before its status
unfoldable pub bytes_before : Own → List ℕ → List ℕ
bytes_before o r = cond (eqb (type_of r) PROBE) (probed o (probe_endpoint r)) []
