-- What an access is answered for every state and table, those too that are not sound. On sound ones it is the decision of
-- Flat.antt.
use Rattle.std.specs.Prelude.{cond, [], leb}
use Rattle.rules.specs.Sizes.{max_endpoints, top_address}
use Rattle.rules.specs.declared.Answer.{Answer}
use Rattle.rules.specs.declared.Answer.TheVariants.{Done, Served, Through, Fetched, Refused, Blocked}
use Rattle.rules.specs.declared.Refusal.TheVariants.{Unsound}
use Rattle.rules.specs.declared.Access.{Access}
use Rattle.rules.specs.State.{Device}
use Rattle.rules.specs.Device.{Reply}
use Rattle.refinement.specs.Flat.{device, decision, after_access}

-- the answer, where the address that it gives is one of 64 bits; a record that leads past them is none of a sound table
unfoldable pub in_words : Answer → Answer
in_words Done = Done
in_words (Served n) = Served n
in_words (Through x) = cond (leb x top_address) (Through x) (Refused Unsound)
in_words (Fetched n) = Fetched n
in_words (Refused e) = Refused e
in_words (Blocked c) = Blocked c

-- the decision, where the endpoints listed have places
abbrev pub translate : Device → Access → Answer
translate d a = cond (leb d.state.listed max_endpoints) (in_words (decision d a)) (Refused Unsound)

-- an access: its answer, and the device with its fault logged where it is blocked
abbrev pub access_whole : Device → Access → Reply × Device
access_whole d a = (record { answer = translate d a; buffer = [] }, device (after_access d.state a (translate d a)) d.table)
