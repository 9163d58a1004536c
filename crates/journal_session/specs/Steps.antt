-- What one record of a journal does and prints.
use Rattle.std.specs.Prelude.{ℕ, ◌+◌, ◌*◌, Bool, true, false, cond, not, ◌&&◌, List, [], leb, ltb, replicate}
use Rattle.rules.specs.Sizes.{max_guests, max_endpoints, fault_size, status_size, probe_size}
use Rattle.rules.specs.declared.Guest.{Guest}
use Rattle.rules.specs.declared.Endpoint.{Endpoint}
use Rattle.rules.specs.declared.Region.{Region}
use Rattle.rules.specs.declared.Access.{Access}
use Rattle.rules.specs.declared.State.{State}
use Rattle.rules.specs.State.{Device, config_of, zero_state}
use Rattle.rules.specs.Device.{Reply, SetUp, step, set_up, request, reset, fetch, of_guest, access_by}
use Rattle.state_fields.specs.Fields.{with_settings, with_regions}
use Rattle.journal_line_plain.specs.Plain.{letter_s, letter_z, number_line}
use Rattle.journal_line_call.specs.Lines.{request_line, access_line}
use Rattle.journal_line_probe.specs.Lines.{probe_lines}
use Rattle.journal_line_fetch.specs.Lines.{fetch_room, fetch_lines}
use Rattle.journal_records.specs.declared.GuestFields.{GuestFields}
use Rattle.journal_records.specs.declared.StartFields.{StartFields}
use Rattle.journal_records.specs.declared.Item.{Item}
use Rattle.journal_records.specs.declared.Item.TheVariants.{Cut, Wrong, NamedGuest, NamedEndpoint, Start, NamedRegion, Request, Probe, AccessBy, Reset, Fetch}
use Rattle.journal_session.specs.declared.session.Session.{Session}
use Rattle.journal_records.specs.Items.{front, size_of, request_bytes}
use Rattle.journal_session.specs.Naming.{guest_named, endpoint_named, region_taken, region_named, ranges_named}

-- the bytes that the lines of one record may take: a fetch's are the most
abbrev pub record_room : ℕ
record_room = fetch_room

-- what a record leaves: the session, the table, the bytes read (0: no record was worked) and printed, and whether the journal is bad here
pub record RecordStep : Type 0 where
  pub session : Session
  pub table : List ℕ
  pub read : ℕ
  pub printed : List ℕ
  pub bad : Bool

-- a journal before its start, with this configuration named so far, and after it
abbrev pub naming : State → Session
naming s = record { started = false; state = s }

abbrev pub running : State → Session
running s = record { started = true; state = s }

-- before the first record nothing is named
abbrev pub fresh : Session
fresh = naming zero_state

-- no record is worked
abbrev pub unread : Session → List ℕ → Bool → RecordStep
unread p t b = record { session = p; table = t; read = 0; printed = []; bad = b }

-- the record at the front of s is worked
abbrev pub done : List ℕ → Session → List ℕ → List ℕ → RecordStep
done s p t line = record { session = p; table = t; read = size_of s; printed = line; bad = false }

-- the record is worked where it may stand here; else the journal is bad
abbrev pub allowed : Bool → Session → List ℕ → RecordStep → RecordStep
allowed b p t x = cond b x (unread p t true)

abbrev pub session_device : Session → List ℕ → Device
session_device p t = record { state = p.state; table = t }

-- a call, with the lines that its answer and its buffer as left print
abbrev pub call_step : List ℕ → (Reply → List ℕ) → Reply × Device → RecordStep
call_step s line r = done s (running r.1.state) r.1.table (line r.0)

-- WHAT EACH KIND OF RECORD DOES, where it may stand

-- "0x01 guest", "0x02 endpoint": one more is named
abbrev pub guest_step : Session → List ℕ → List ℕ → GuestFields → RecordStep
guest_step p t s f = done s (naming (with_settings (guest_named f p.state.settings) p.state)) t []

abbrev pub endpoint_step : Session → List ℕ → List ℕ → Endpoint → Guest → RecordStep
endpoint_step p t s e g = done s (naming (endpoint_named e g p.state)) t []

-- "0x04 region": one region more of an endpoint
abbrev pub region_step : Session → List ℕ → List ℕ → Endpoint → Region → RecordStep
region_step p t s e q = done s (naming (with_regions (region_named p.state.listed p.state.endpoints p.state.regions e q) p.state)) t []

-- "0x03 start": set-up with what was named; "`S` [..] the number". A refused start is a start.
abbrev pub started_step : List ℕ → SetUp → RecordStep
started_step s u = done s (running u.device.state) u.device.table (number_line letter_s u.answer)

abbrev pub start_step : Session → List ℕ → List ℕ → StartFields → RecordStep
start_step p t s f = started_step s (set_up (config_of (with_settings (ranges_named f p.state.settings) p.state)) t)

-- "0x11, 0x12, 0x13": a request; its writable part has four bytes
abbrev pub requested_step : List ℕ → Reply × Device → RecordStep
requested_step s r = call_step s (λ x. request_line x.answer x.buffer) r

abbrev pub request_step : Session → List ℕ → List ℕ → Guest → RecordStep
request_step p t s g = requested_step s (step (session_device p t) (of_guest g (request (request_bytes s) (replicate status_size 0))))

-- "0x14": a request; its writable part has room for properties
abbrev pub probed_step : List ℕ → Reply × Device → RecordStep
probed_step s r = call_step s (λ x. probe_lines x.answer x.buffer) r

abbrev pub probe_step : Session → List ℕ → List ℕ → Guest → RecordStep
probe_step p t s g = probed_step s (step (session_device p t) (of_guest g (request (request_bytes s) (replicate probe_size 0))))

-- "0x21": an access
abbrev pub accessed_step : List ℕ → Reply × Device → RecordStep
accessed_step s r = call_step s (λ x. access_line x.answer) r

abbrev pub access_step : Session → List ℕ → List ℕ → Access → RecordStep
access_step p t s x = accessed_step s (step (session_device p t) (access_by x))

-- "0x22 reset"
abbrev pub cleared_step : List ℕ → Reply × Device → RecordStep
cleared_step s r = call_step s (λ x. number_line letter_z x.answer) r

abbrev pub reset_step : Session → List ℕ → List ℕ → Guest → RecordStep
reset_step p t s g = cleared_step s (step (session_device p t) (of_guest g reset))

-- "0x23 fetch"; its buffer has room for the records asked
abbrev pub fetched_step : List ℕ → Reply × Device → RecordStep
fetched_step s r = call_step s (λ x. fetch_lines x.answer x.buffer) r

abbrev pub fetch_step : Session → List ℕ → List ℕ → Guest → ℕ → RecordStep
fetch_step p t s g n = fetched_step s (step (session_device p t) (of_guest g (fetch (replicate (fault_size * n) 0))))

-- "a fifth guest, a 33rd endpoint, 0x01 or 0x02 after start, a second start, a call before start", a region "after start, for an
-- endpoint not yet named or as its fifth region": each is bad
unfoldable pub step_of : Session → List ℕ → List ℕ → Item → RecordStep
step_of p t s Cut = unread p t false
step_of p t s Wrong = unread p t true
step_of p t s (NamedGuest f) = allowed (not p.started && ltb p.state.settings.guests max_guests) p t (guest_step p t s f)
step_of p t s (NamedEndpoint e g) = allowed (not p.started && ltb p.state.listed max_endpoints) p t (endpoint_step p t s e g)
step_of p t s (Start f) = allowed (not p.started) p t (start_step p t s f)
step_of p t s (NamedRegion e q) =
    allowed (not p.started && region_taken p.state.listed p.state.endpoints p.state.regions e) p t (region_step p t s e q)
step_of p t s (Request g) = allowed p.started p t (request_step p t s g)
step_of p t s (Probe g) = allowed p.started p t (probe_step p t s g)
step_of p t s (AccessBy x) = allowed p.started p t (access_step p t s x)
step_of p t s (Reset g) = allowed p.started p t (reset_step p t s g)
step_of p t s (Fetch g n) = allowed p.started p t (fetch_step p t s g n)

-- the record at the front of s, the rest of a journal
unfoldable pub step_record : Session → List ℕ → List ℕ → RecordStep
step_record p t s = step_of p t s (front s)

-- the record at the front of s, where a buffer of so many bytes has room for the lines of one record from place k on; else none is worked
unfoldable pub step_in : ℕ → ℕ → Session → List ℕ → List ℕ → RecordStep
step_in room k p t s = cond (leb (k + record_room) room) (step_record p t s) (unread p t false)
