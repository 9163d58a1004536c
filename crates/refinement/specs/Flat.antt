-- What each call does on the state's arrays and the table's words, as the code works it. The laws in proofs/ show that on sound
-- state and table this is what document 01's rules give.
use Rattle.std.specs.Prelude.{ℕ, suc, ◌+◌, ◌-◌, ◌*◌, ◌/◌, min, Bool, cond, not, ◌&&◌, List, ◌++◌, leb, ltb, eqb, length, get_or, take, drop, replicate}
use Rattle.std.proofs.Math.Option.{Option, some, none}
use Rattle.laws.specs.Lists.{any?, tab, pad}
use Rattle.rules.specs.Sizes.{max_guests, max_faults, fault_size, properties_size, domain_span, top_address}
use Rattle.rules.specs.declared.Guest.{Guest}
use Rattle.rules.specs.declared.Endpoint.{Endpoint}
use Rattle.rules.specs.declared.Domain.{Domain}
use Rattle.rules.specs.declared.State.{State}
use Rattle.rules.specs.declared.Mapping.{Mapping}
use Rattle.rules.specs.declared.Answer.{Answer}
use Rattle.rules.specs.declared.Answer.TheVariants.{Done, Served, Through, Fetched, Refused, Blocked}
use Rattle.rules.specs.declared.Refusal.TheVariants.{UnknownEndpoint}
use Rattle.rules.specs.declared.Cause.TheVariants.{Unattached, Unmapped}
use Rattle.rules.specs.declared.Access.{Access}
use Rattle.rules.specs.Configuration.{share, meets}
use Rattle.rules.specs.Table.{key_of, records, overlap}
use Rattle.rules.specs.State.{Device, config_of, fault_at, domain_at}
use Rattle.rules.specs.Guests.{own, records_of}
use Rattle.rules.specs.Requests.{OK, DEVERR, NOENT}
use Rattle.rules.specs.Handlers.{status_of, outside, attach_chain, detach_chain, form_steps, map_chain, straddles, unmap_chain}
use Rattle.rules.specs.Access.{find_mapping, fault_of, bytes_of}
use Rattle.wire_properties.specs.Properties.{properties_put}
use Rattle.state_regions.specs.Held.{held_regions}
use Rattle.table_reserved.specs.Reserved.{regions_met}
use Rattle.table_insert.specs.Inserted.{inserted_words}
use Rattle.table_remove.specs.Removed.{kept_of, removed_words}
use Rattle.state_fields.specs.Fields.{with_live}
use Rattle.state_endpoints.specs.Changes.{attach_at}
use Rattle.state_log.specs.Changes.{log_fault}
use Rattle.state_reset.specs.Changes.{guest_cleared}
use Rattle.state_endpoints.specs.Search.{index_of, any_below, belongs}

abbrev pub device : State → List ℕ → Device
device s ws = record { state = s; table = ws }

-- a status and the device afterwards
pub record StatusAndDevice : Type 0 where
  pub status : ℕ
  pub left : Device

abbrev pub with_status : ℕ → Device → StatusAndDevice
with_status st d = record { status = st; left = d }

-- ENDPOINTS

abbrev pub endpoint_index : State → Endpoint → ℕ
endpoint_index s e = index_of e.0 (take s.listed s.endpoints)

-- the endpoint at place i is listed and guest g's
abbrev pub owned_at : State → Guest → ℕ → Bool
owned_at s g i = ltb i s.listed && eqb (get_or s.owners i 0) g.0

abbrev pub is_attached : State → ℕ → Bool
is_attached s i = eqb (get_or s.attached i 0) 1

abbrev pub owner_at : State → ℕ → Guest
owner_at s i = record { 0 = get_or s.owners i 0 }

-- "0 where unattached"
abbrev pub no_domain : Domain
no_domain = record { 0 = 0 }

unfoldable pub domain_exists : State → Guest → Domain → Bool
domain_exists s g d = any_below (min (length s.owners) (min (length s.attached) (length s.domains))) (belongs s.owners s.attached s.domains g d)

-- RECORDS

abbrev pub live_records : Device → List Mapping
live_records d = take d.state.live (records d.table)

-- the records with a key from low to high inside the addresses from a to b go
unfoldable pub removed : Device → ℕ → ℕ → ℕ → ℕ → Device
removed d low high a b =
    device (with_live (length (kept_of d.state.live low high a b d.table)) d.state) (removed_words d.state.live low high a b d.table)

unfoldable pub inserted : Device → Mapping → Device
inserted d r = device (with_live (suc d.state.live) d.state) (inserted_words d.state.live r d.table)

-- ATTACH AND DETACH

-- the endpoint at place i leaves domain dom; with its last endpoint the domain's records go
unfoldable pub leave : Device → Guest → ℕ → Domain → Device
leave d g i dom =
    cond (domain_exists (attach_at d.state i 0 no_domain) g dom) (device (attach_at d.state i 0 no_domain) d.table)
    (removed (device (attach_at d.state i 0 no_domain) d.table) (key_of g dom) (key_of g dom) 0 top_address)

-- the endpoint at place i enters domain dom
unfoldable pub enter : Device → ℕ → Domain → Device
enter d i dom = device (attach_at d.state i 1 dom) d.table

-- the endpoint at place i moves to domain dom, out of the one that it was in
unfoldable pub move_to : Device → Guest → ℕ → Domain → Device
move_to d g i dom =
    cond (is_attached d.state i)
    (cond (eqb (get_or d.state.domains i 0) dom.0) d (enter (leave d g i (domain_at d.state i)) i dom))
    (enter d i dom)

-- the status, with e where it is OK, else with d
abbrev pub settled : ℕ → Device → Device → StatusAndDevice
settled st d e = with_status st (cond (eqb st OK) e d)

-- the endpoint at place i is attached to domain dom
abbrev pub is_in_domain : State → ℕ → Domain → Bool
is_in_domain s i dom = is_attached s i && eqb (get_or s.domains i 0) dom.0

-- some record of guest g's domain dom overlaps a region of the endpoint at place i
abbrev pub barred_from : Device → Guest → Domain → ℕ → Bool
barred_from d g dom i = regions_met (key_of g dom) (live_records d) (held_regions d.state.regions i)

-- the status of an ATTACH of the endpoint at place i
unfoldable pub attach_status : Device → Guest → Domain → ℕ → ℕ → ℕ
attach_status d g dom i reserved =
    status_of (attach_chain
    (not (eqb reserved 0))
    (not (owned_at d.state g i))
    (outside d.state.settings.domains.start d.state.settings.domains.end dom.0)
    (not (is_in_domain d.state i dom) && barred_from d g dom i))

unfoldable pub handle_attach : Device → Guest → Domain → Endpoint → ℕ → StatusAndDevice
handle_attach d g dom e reserved = settled (attach_status d g dom (endpoint_index d.state e) reserved) d (move_to d g (endpoint_index d.state e) dom)

-- the status of a DETACH of the endpoint at place i
unfoldable pub detach_status : State → Guest → Domain → ℕ → ℕ → ℕ
detach_status s g dom i reserved =
    status_of (detach_chain (not (eqb reserved 0)) (not (owned_at s g i)) (not (is_in_domain s i dom)))

unfoldable pub handle_detach : Device → Guest → Domain → Endpoint → ℕ → StatusAndDevice
handle_detach d g dom e reserved = settled (detach_status d.state g dom (endpoint_index d.state e) reserved) d (leave d g (endpoint_index d.state e) dom)

-- MAP AND UNMAP

-- the record overlaps a region of one of guest g's endpoints in domain dom
unfoldable pub on_regions : State → Guest → Domain → Mapping → Bool
on_regions s g dom r =
    any_below (min (length s.owners) (min (length s.attached) (length s.domains)))
    (λ i. belongs s.owners s.attached s.domains g dom i && any? (meets r.start r.end) (held_regions s.regions i))

unfoldable pub map_status : Device → Guest → Domain → Mapping → ℕ
map_status d g dom r =
    status_of (map_chain
    (not (domain_exists d.state g dom))
    (form_steps (own (config_of d.state) g) r)
    (any? (overlap r) (live_records d))
    (on_regions d.state g dom r)
    (leb (share d.state.settings g.0) (length (records_of g (live_records d)))))

-- MAP, where one record more can be counted
unfoldable pub map_counted : Device → Guest → Domain → Mapping → StatusAndDevice
map_counted d g dom r = settled (map_status d g dom r) d (inserted d r)

-- MAP: a device error where the guest has no place or one record more can't be counted, which a sound device rules out
unfoldable pub handle_map : Device → Guest → Domain → Mapping → StatusAndDevice
handle_map d g dom r = cond (ltb g.0 max_guests && ltb d.state.live top_address) (map_counted d g dom r) (with_status DEVERR d)

unfoldable pub unmap_status : Device → Guest → Domain → ℕ → ℕ → ℕ → ℕ
unmap_status d g dom a b reserved =
    status_of (unmap_chain (not (domain_exists d.state g dom)) (not (eqb reserved 0)) (ltb b a) (any? (straddles (key_of g dom) a b) (live_records d)))

unfoldable pub handle_unmap : Device → Guest → Domain → ℕ → ℕ → ℕ → StatusAndDevice
handle_unmap d g dom a b reserved = settled (unmap_status d g dom a b reserved) d (removed d (key_of g dom) (key_of g dom) a b)

-- PROBE

-- the status of a PROBE of the endpoint at place i
abbrev pub probe_status : State → Guest → ℕ → ℕ
probe_status s g i = cond (owned_at s g i) OK NOENT

-- the properties that it writes: none where its status is not OK
unfoldable pub probe_bytes : State → Guest → ℕ → List ℕ
probe_bytes s g i = cond (owned_at s g i) (pad properties_size 0 (properties_put (held_regions s.regions i))) (replicate properties_size 0)

-- RESET

-- the records of every domain of guest g go
abbrev pub records_cleared : Device → Guest → Device
records_cleared d g = removed d (g.0 * domain_span) (g.0 * domain_span + (domain_span - 1)) 0 top_address

-- guest g's endpoints are detached, its log is empty, its lost count 0, and its records are gone
unfoldable pub reset_guest : Device → Guest → Device
reset_guest d g = records_cleared (device (guest_cleared d.state g) d.table) g

-- ACCESS

-- what a lookup's outcome answers for an access
unfoldable pub answer_of : Access → Option Mapping → Answer
answer_of a none = Blocked Unmapped
answer_of a (some r) = Through (a.address - r.start + r.phys)

-- the answer of an access by the endpoint at place i, of which n are listed
unfoldable pub decision_at : ℕ → ℕ → List ℕ → List ℕ → List ℕ → List Mapping → Access → Answer
decision_at i n owners attached domains live a =
    cond (not (ltb i n)) (Refused UnknownEndpoint)
    (cond (not (eqb (get_or attached i 0) 1)) (Blocked Unattached)
    (answer_of a (find_mapping (key_of (record { 0 = get_or owners i 0 }) (record { 0 = get_or domains i 0 })) a live)))

abbrev pub decision : Device → Access → Answer
decision d a = decision_at (endpoint_index d.state a.endpoint) d.state.listed d.state.owners d.state.attached d.state.domains (live_records d) a

-- the state after an access with this answer: a blocked one logs a fault for the endpoint's owner
unfoldable pub after_access : State → Access → Answer → State
after_access s a Done = s
after_access s a (Served n) = s
after_access s a (Through x) = s
after_access s a (Fetched n) = s
after_access s a (Refused e) = s
after_access s a (Blocked c) = log_fault s (owner_at s (endpoint_index s a.endpoint)) (fault_of c a)

-- FETCH

-- how many of guest g's faults are held and fit whole into a buffer of so many bytes
abbrev pub fetch_count : State → Guest → ℕ → ℕ
fetch_count s g bytes = min (get_or s.logged g.0 0) (bytes / fault_size)

-- the buffer with the bytes of guest g's n oldest faults, and its later bytes as they were
unfoldable pub fetch_bytes : State → Guest → ℕ → List ℕ → List ℕ
fetch_bytes s g n buffer = bytes_of (tab n (λ j. fault_at s (max_faults * g.0 + j))) ++ drop (fault_size * n) buffer
