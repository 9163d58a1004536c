-- "Accesses and faults", reset and fetch, on one guest's own part of the device.
use Rattle.std.specs.Prelude.{ℕ, suc, ◌+◌, ◌-◌, ◌*◌, ◌/◌, ◌%◌, min, Bool, cond, ◌&&◌, List, [], ◌∷◌, ◌++◌, leb, ltb, eqb, length, take, drop, replicate}
use Rattle.std.proofs.Math.Option.{Option, some, none}
use Rattle.laws.specs.Lists.{find}
use Rattle.laws.specs.Bytes.{le_bytes}
use Rattle.rules.specs.declared.Access.{Access}
use Rattle.rules.specs.declared.Mapping.{Mapping}
use Rattle.rules.specs.declared.Fault.{Fault}
use Rattle.rules.specs.declared.Answer.{Answer}
use Rattle.rules.specs.declared.Answer.TheVariants.{Through, Blocked}
use Rattle.rules.specs.declared.Cause.{Cause}
use Rattle.rules.specs.declared.Cause.TheVariants.{Unattached, Unmapped}
use Rattle.rules.specs.Sizes.{max_faults, max_lost, fault_size}
use Rattle.rules.specs.Table.{key_of}
use Rattle.rules.specs.State.{Attachment, Log, no_log}
use Rattle.rules.specs.Guests.{Own, Part, with_log}
use Rattle.rules.specs.Handlers.{of_key, attachment_of}

-- "READ 1 or WRITE 2": the flag that an access asks for. Kind 0 is a read, any other a write.
abbrev pub flag_for : ℕ → ℕ
flag_for kind = cond (eqb kind 0) 1 2

-- "has the matching flag"; "READ doesn't follow from WRITE"
unfoldable pub has_flag : ℕ → ℕ → Bool
has_flag kind flags = eqb (flags / flag_for kind % 2) 1

-- "a record of the owner's and endpoint's domain covers the address and has the matching flag"
unfoldable pub permits : ℕ → Access → Mapping → Bool
permits key a r = of_key key r && ((leb r.start a.address && leb a.address r.end) && has_flag a.kind r.flags)

-- the record by which an access of an endpoint in the key's domain goes through
unfoldable pub find_mapping : ℕ → Access → List Mapping → Option Mapping
find_mapping key a l = find (permits key a) l

-- "Log full: the new one is dropped, the lost count rises by one until 65,535."
unfoldable pub logged : Fault → Log → Log
logged f l =
    cond (ltb (length l.faults) max_faults)
    (record { faults = l.faults ++ (f ∷ []); lost = l.lost })
    (record { faults = l.faults; lost = cond (ltb l.lost max_lost) (suc l.lost) l.lost })

-- "reason (1 domain, 2 mapping)"
abbrev pub reason_of : Cause → ℕ
reason_of Unattached = 1
reason_of Unmapped = 2

-- "reason [..], flags 4 (READ 1 or WRITE 2, plus ADDRESS 256), endpoint 4, [..] address 8"
abbrev pub fault_of : Cause → Access → Fault
fault_of cause a = record { reason = reason_of cause; flags = flag_for a.kind + 256; endpoint = a.endpoint; address = a.address }

-- "access blocked", "fault logged"
unfoldable pub blocked : Cause → Access → Part → Answer × Part
blocked cause a p = (Blocked cause, with_log (logged (fault_of cause a) p.log) p)

-- "it goes through to address − virt_start + phys_start. Else 8."
unfoldable pub translated : Access → Part → Option Mapping → Answer × Part
translated a p none = blocked Unmapped a p
translated a p (some r) = (Through (a.address - r.start + r.phys), p)

-- "Unattached: 7."
unfoldable pub decided : Own → Part → Access → Attachment → Answer × Part
decided o p a none = blocked Unattached a p
decided o p a (some d) = translated a p (find_mapping (key_of o.guest d) a p.records)

-- "An access names endpoint, address and read or write."
unfoldable pub access : Own → Part → Access → Answer × Part
access o p a = decided o p a (attachment_of a.endpoint o.endpoints p.attachments)

-- "Reset of a guest: its endpoints detached, its records gone, its log empty, its lost count 0."
unfoldable pub after_reset : Part → Part
after_reset p = record { attachments = replicate (length p.attachments) none; records = []; log = no_log }

-- "Fault record, 24 bytes: reason [..], three zeros, flags 4 [..], endpoint 4, zero 4, address 8."
unfoldable pub fault_bytes : Fault → List ℕ
fault_bytes f =
    f.reason ∷ 0 ∷ 0 ∷ 0 ∷ le_bytes 4 f.flags ++ (le_bytes 4 f.endpoint.0 ++ (le_bytes 4 0 ++ le_bytes 8 f.address))

abbrev pub bytes_of : List Fault → List ℕ
bytes_of [] = []
bytes_of (f ∷ l) = fault_bytes f ++ bytes_of l

-- "as many as are held and fit whole"
abbrev pub fetchable : Log → List ℕ → ℕ
fetchable l buffer = min (length l.faults) (length buffer / fault_size)

-- "Fetch writes the oldest records one after another into the lent buffer [..]. Bytes after them stay."
unfoldable pub fetched_into : ℕ → Log → List ℕ → List ℕ
fetched_into n l buffer = bytes_of (take n l.faults) ++ drop (fault_size * n) buffer

-- "removes them"
unfoldable pub fetched_from : ℕ → Log → Log
fetched_from n l = record { faults = drop n l.faults; lost = l.lost }
