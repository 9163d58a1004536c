-- "records held = its MAPs answered OK minus the records that its later unmaps, detaches, moves and resets took away by the
-- rules above, counted over the history"
use Rattle.std.specs.Prelude.{ℕ, ◌+◌, Bool, true, false, cond, not, ◌&&◌, List, [], ◌∷◌, eqb, length, get_or}
use Rattle.std.proofs.Math.Option.{some, none}
use Rattle.laws.specs.Lists.{keep, first_failing}
use Rattle.rules.specs.declared.Guest.{Guest}
use Rattle.rules.specs.declared.Endpoint.{Endpoint}
use Rattle.rules.specs.declared.Domain.{Domain}
use Rattle.rules.specs.declared.Mapping.{Mapping}
use Rattle.rules.specs.Configuration.{Config}
use Rattle.rules.specs.Table.{key_of}
use Rattle.rules.specs.State.{Attachment, Device, read}
use Rattle.rules.specs.Guests.{Own, Part, own, part}
use Rattle.rules.specs.Answers.{used_length}
use Rattle.rules.specs.Requests.{OK, ATTACH, DETACH, MAP, UNMAP, request_refusals, type_of, domain_field, endpoint_field, virt_start, virt_end}
use Rattle.rules.specs.Handlers.{is_in, domain_exists, attachment_of, attached_as, of_key, inside, handle}
use Rattle.rules.specs.Sound.{passes}
use Rattle.rules.specs.Device.{Job, request, reset, fetch, Call, of_guest, access_by, Reply, owns, step}

-- a detach of endpoint e from domain d takes the record away: e was the domain's last endpoint, and the record is the domain's
abbrev pub gone_with_domain : Own → Part → Endpoint → Domain → Mapping → Bool
gone_with_domain o p e d r = not (domain_exists d (attached_as e none o.endpoints p.attachments)) && of_key (key_of o.guest d) r

-- a move of endpoint e into domain d takes the record away: as a detach from where e was, unless e was there already
abbrev pub gone_by_move : Own → Part → Endpoint → Domain → Attachment → Mapping → Bool
gone_by_move o p e d none r = false
gone_by_move o p e d (some was) r = not (is_in d (some was)) && gone_with_domain o p e was r

-- a request that is answered OK takes the record away, by its type
unfoldable pub gone_by_request : Own → Part → List ℕ → Mapping → Bool
gone_by_request o p q r =
    eqb (handle o p q).0 OK
    && cond (eqb (type_of q) ATTACH) (gone_by_move o p (endpoint_field q) (domain_field q) (attachment_of (endpoint_field q) o.endpoints p.attachments) r)
    (cond (eqb (type_of q) DETACH) (gone_with_domain o p (endpoint_field q) (domain_field q) r)
    (cond (eqb (type_of q) MAP) false
    (cond (eqb (type_of q) UNMAP) (inside (key_of o.guest (domain_field q)) (virt_start q) (virt_end q) r)
    false)))

-- a guest's job takes the record away
unfoldable pub gone_by_job : Own → Part → Job → Mapping → Bool
gone_by_job o p (request q w) r = passes (first_failing (request_refusals q (length w))) && gone_by_request o p q r
gone_by_job o p reset r = true
gone_by_job o p (fetch b) r = false

-- a call of the guest's own takes the record away
unfoldable pub gone : Own → Part → Call → Mapping → Bool
gone o p (of_guest g j) r = gone_by_job o p j r
gone o p (access_by a) r = false

-- how many records a call of the guest's own takes away
unfoldable pub taken_away : Own → Part → Call → ℕ
taken_away o p x = length (keep (gone o p x) p.records)

-- a MAP answered OK: type 3, worked, and the status byte is OK
unfoldable pub mapped_by_job : Job → Reply → Bool
mapped_by_job (request q w) a = eqb (type_of q) MAP && (eqb (used_length a.answer) 4 && eqb (get_or a.buffer 0 0) OK)
mapped_by_job reset a = false
mapped_by_job (fetch b) a = false

unfoldable pub mapped : Call → Reply → Bool
mapped (of_guest g j) a = mapped_by_job j a
mapped (access_by x) a = false

-- how many records a guest's calls have mapped and taken away so far
pub record Tally : Type 0 where
  pub mapped : ℕ
  pub taken : ℕ

abbrev pub no_tally : Tally
no_tally = record { mapped = 0; taken = 0 }

-- with one call of the guest's own more, worked on its part p and replied to with a
abbrev pub counted : Own → Part → Call → Reply → Tally → Tally
counted o p x a t = record { mapped = t.mapped + cond (mapped x a) 1 0; taken = t.taken + taken_away o p x }

-- "counted over the history": the calls from the device d on, of which those of guest g count
abbrev pub history : Config → Guest → Device → List Call → Tally → Tally
history c g d [] t = t
history c g d (x ∷ xs) t = history c g (step d x).1 xs (cond (owns c g x) (counted (own c g) (part c g (read d)) x (step d x).0 t) t)
