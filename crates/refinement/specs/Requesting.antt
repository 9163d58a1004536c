-- A request on the state's arrays and the table's words, as the code works it.
use Rattle.std.specs.Prelude.{ℕ, ◌+◌, cond, List, [], ◌∷◌, ◌++◌, ltb, length, Result, Ok, Err}
use Rattle.rules.specs.declared.Guest.{Guest}
use Rattle.rules.specs.declared.Domain.{Domain}
use Rattle.rules.specs.declared.Mapping.{Mapping}
use Rattle.rules.specs.declared.Answer.TheVariants.{Served, Refused}
use Rattle.rules.specs.declared.Refusal.{Refusal}
use Rattle.rules.specs.declared.Refusal.TheVariants.{NoSuchGuest}
use Rattle.rules.specs.Sizes.{status_size}
use Rattle.rules.specs.State.{Device}
use Rattle.rules.specs.Table.{key_of, mapping}
use Rattle.rules.specs.Device.{Reply}
use Rattle.wire_requests.specs.Parsed.{parsed}
use Rattle.wire_requests.specs.declared.request.Request.{Request}
use Rattle.wire_requests.specs.declared.request.Request.TheVariants.{Attach, Detach, Map, Unmap, Probe}
use Rattle.wire_requests.specs.declared.request.MapFields.{MapFields}
use Rattle.refinement.specs.Flat.{StatusAndDevice, with_status}
use Rattle.refinement.specs.Flat as flat

-- the record that a MAP request of guest g asks for
abbrev pub record_of : Guest → Domain → MapFields → Mapping
record_of g d f = mapping (key_of g d) f.start f.end f.phys f.flags

-- what the handler of a request gives, by its case
unfoldable pub handle : Device → Guest → Request → StatusAndDevice
handle d g (Attach dom e z) = flat.handle_attach d g dom e z
handle d g (Detach dom e z) = flat.handle_detach d g dom e z
handle d g (Map dom f) = flat.handle_map d g dom (record_of g dom f)
handle d g (Unmap dom f) = flat.handle_unmap d g dom f.start f.end f.reserved
handle d g (Probe e) = with_status (flat.probe_status d.state g (flat.endpoint_index d.state e)) d

-- the bytes that a request writes before its status
unfoldable pub bytes_before : Device → Guest → Request → List ℕ
bytes_before d g (Attach dom e z) = []
bytes_before d g (Detach dom e z) = []
bytes_before d g (Map dom f) = []
bytes_before d g (Unmap dom f) = []
bytes_before d g (Probe e) = flat.probe_bytes d.state g (flat.endpoint_index d.state e)

-- a refused request, and one that is worked: these bytes, then the status and three zeros
abbrev pub refused_request : Device → List ℕ → Refusal → Reply × Device
refused_request d b e = (record { answer = Refused e; buffer = b }, d)

abbrev pub served : List ℕ → StatusAndDevice → Reply × Device
served b x = (record { answer = Served (length b + status_size); buffer = b ++ (x.status ∷ 0 ∷ 0 ∷ 0 ∷ []) }, x.left)

-- what a parsed request is answered
unfoldable pub unless_refused : Device → Guest → List ℕ → Result Request Refusal → Reply × Device
unless_refused d g b (Err e) = refused_request d b e
unless_refused d g b (Ok q) = served (bytes_before d g q) (handle d g q)

-- the guest's number, the request's own refusals, then its handler
unfoldable pub serve : Device → Guest → List ℕ → List ℕ → Reply × Device
serve d g r b = cond (ltb g.0 d.state.settings.guests) (unless_refused d g b (parsed r (length b))) (refused_request d b NoSuchGuest)
