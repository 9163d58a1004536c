-- What is claimed of the device over any list of calls. Each claim is a statement, and the crate's proofs prove it.
use Rattle.std.specs.Prelude.{ℕ, ◌+◌, ◌-◌, ◌≤◌, ◌<◌, ◌≡◌, Bool, true, cond, not, ◌&&◌, ◌||◌, List, [], ◌∷◌, leb, ltb, eqb, length, get_or}
use Rattle.std.proofs.Math.Option.{Option, some, none}
use Rattle.laws.specs.Lists.{any?, every?, keep, below}
use Rattle.laws.specs.Runs.{after, given, every}
use Rattle.rules.specs.declared.Guest.{Guest}
use Rattle.rules.specs.declared.Endpoint.{Endpoint}
use Rattle.rules.specs.declared.Domain.{Domain}
use Rattle.rules.specs.declared.Mapping.{Mapping}
use Rattle.rules.specs.declared.Access.{Access}
use Rattle.rules.specs.declared.Answer.TheVariants.{Done, Through}
use Rattle.rules.specs.Sizes.{max_records, table_words}
use Rattle.rules.specs.Configuration.{Config, share, window_first, window_last, good}
use Rattle.rules.specs.Table.{key_of, mapping}
use Rattle.rules.specs.State.{Device, config_of, read, zero_state, Lengths}
use Rattle.rules.specs.Guests.{Part, own, part}
use Rattle.rules.specs.Answers.{number, address_of}
use Rattle.rules.specs.Requests.{OK, NOMEM, PROBE, type_of, readable_length, writable_length, status_in}
use Rattle.rules.specs.Handlers.{attachment_of}
use Rattle.rules.specs.Access.{has_flag, permits}
use Rattle.rules.specs.Sound.{sound, guest, part_tests, common_tests}
use Rattle.rules.specs.Device.{request, reset, fetch, Call, of_guest, access_by, Reply, lent, rule, caller, owns, step, set_up}
use Rattle.rules.specs.History.{no_tally, history}

-- the guest's attachments, records in table order, log and lost count
abbrev pub holds : Config → Guest → Device → Part
holds c g d = part c g (read d)

-- 1. GUESTS ARE KEPT APART

-- Two lists of calls xs and ys from the device d. "Compared are, for each of that guest's own calls and accesses, all that it
-- gives back besides state and table [..] and its buffers as it leaves them; and after the lists the guest's attachments,
-- records in table order, log and lost count. All equal what the rules above give when that guest's own calls and accesses
-- alone are worked in order from that set-up."
pub record Apart (c : Config) (g : Guest) (d : Device) (xs ys : List Call) : Type 0 where
  -- the same replies in both
  pub replies : given step (owns c g) d xs ≡ given step (owns c g) d ys
  -- the same held in the end
  pub held : holds c g (after step d xs) ≡ holds c g (after step d ys)
  -- both are those of the guest's rules for its own calls alone
  pub replies_by_rule : given step (owns c g) d xs ≡ given (rule (own c g)) every (holds c g d) (keep (owns c g) xs)
  pub held_by_rule : holds c g (after step d xs) ≡ after (rule (own c g)) (holds c g d) (keep (owns c g) xs)
  -- and those of the device itself, given the guest's own calls alone
  pub replies_alone : given step (owns c g) d xs ≡ given step every d (keep (owns c g) xs)
  pub held_alone : holds c g (after step d xs) ≡ holds c g (after step d (keep (owns c g) xs))

-- "Both start from the state and table as one set-up, answered 0, left them." The guest's own calls are the same in both lists,
-- in the same order, with the same bytes and buffers.
abbrev pub GuestsApart : Type 0
GuestsApart =
    (c : Config) (table : List ℕ) → (set_up c table).answer ≡ Done
    → (g : Guest) → g.0 < c.settings.guests
    → (xs ys : List Call) → keep (owns c g) xs ≡ keep (owns c g) ys
    → Apart c g (set_up c table).device xs ys

-- 2. NO ACCESS LANDS OUTSIDE ITS OWNER'S WINDOW: "An access lands at the address given with 0."

abbrev pub WithinWindow : Config → Guest → Reply → Type 0
WithinWindow c g a = number a.answer ≡ 0 → (window_first c.settings g.0 ≤ address_of a.answer) × (address_of a.answer ≤ window_last c.settings g.0)

abbrev pub AccessesStayInside : Type 0
AccessesStayInside =
    (c : Config) (table : List ℕ) → (set_up c table).answer ≡ Done
    → (xs : List Call) (a : Access) (g : Guest) → caller c (access_by a) ≡ some g
    → WithinWindow c g (step (after step (set_up c table).device xs) (access_by a)).0

-- 3. RECORDS HELD ARE THE HISTORY'S: held and taken away together are those mapped

abbrev pub HeldIsHistory : Type 0
HeldIsHistory =
    (c : Config) (table : List ℕ) → (set_up c table).answer ≡ Done
    → (g : Guest) → g.0 < c.settings.guests → (xs : List Call)
    → length (holds c g (after step (set_up c table).device xs)).records + (history c g (set_up c table).device xs no_tally).taken
    ≡ (history c g (set_up c table).device xs no_tally).mapped

-- 4. SOUNDNESS IS KEPT

abbrev pub SetUpIsSound : Type 0
SetUpIsSound = (c : Config) (table : List ℕ) → (set_up c table).answer ≡ Done → sound (set_up c table).device ≡ true

abbrev pub CallsKeepSound : Type 0
CallsKeepSound = (d : Device) → sound d ≡ true → (x : Call) → sound (step d x).1 ≡ true

-- so no call is ever answered 2
abbrev pub NeverUnsound : Type 0
NeverUnsound =
    (c : Config) (table : List ℕ) → (set_up c table).answer ≡ Done
    → (xs : List Call) (x : Call) → number (step (after step (set_up c table).device xs) x).0.answer ≡ 2 → ⊥

-- state and table are sound exactly when what is no guest's part is as soundness asks, and so is every guest's part
abbrev pub SoundByParts : Type 0
SoundByParts =
    (d : Device)
    → sound d
    ≡ (every? (common_tests d)
    && below d.state.settings.guests (λ g. every? (part_tests (own (config_of d.state) (guest g)) (holds (config_of d.state) (guest g) d))))

-- 5. AN ACCESS GOES THROUGH EXACTLY WHEN A LIVE RECORD PERMITS IT

-- the live record at place i is of guest g's domain, covers the address and has the flag
pub record Permitting (d : Device) (g : Guest) (domain : Domain) (a : Access) (i : ℕ) (r : Mapping) : Type 0 where
  pub live : i < length (read d).records
  pub there : get_or (read d).records i (mapping 0 0 0 0 0) ≡ r
  pub key : r.key ≡ key_of g domain
  pub from : r.start ≤ a.address
  pub to : a.address ≤ r.end
  pub flag : has_flag a.kind r.flags ≡ true

-- the domain that guest g's endpoint e is attached to
abbrev pub attached_to : Device → Guest → Endpoint → Option Domain
attached_to d g e = attachment_of e (own (config_of d.state) g).endpoints (part (config_of d.state) g (read d)).attachments

-- the access goes through to this address
abbrev pub GoesTo : Device → Access → ℕ → Type 0
GoesTo d a to = (step d (access_by a)).0.answer ≡ Through to

abbrev pub OnlyWhenPermitted : Type 0
OnlyWhenPermitted =
    (d : Device) → sound d ≡ true
    → (a : Access) (to : ℕ) (g : Guest) → caller (config_of d.state) (access_by a) ≡ some g
    → GoesTo d a to
    → (domain : Domain) × (i : ℕ) × (r : Mapping)
    × (attached_to d g a.endpoint ≡ some domain) × Permitting d g domain a i r × (to ≡ a.address - r.start + r.phys)

abbrev pub WheneverPermitted : Type 0
WheneverPermitted =
    (d : Device) → sound d ≡ true
    → (a : Access) (g : Guest) → caller (config_of d.state) (access_by a) ≡ some g
    → (domain : Domain) → attached_to d g a.endpoint ≡ some domain
    → (i : ℕ) (r : Mapping) → Permitting d g domain a i r
    → GoesTo d a (a.address - r.start + r.phys)

-- 6. "NOMEM HAS NO OTHER CAUSE" than the guest's share

abbrev pub NoMemOnlyByShare : Type 0
NoMemOnlyByShare =
    (d : Device) → sound d ≡ true
    → (g : Guest) (readable writable : List ℕ) → number (step d (of_guest g (request readable writable))).0.answer ≡ 0
    → status_in (step d (of_guest g (request readable writable))).0.buffer ≡ NOMEM
    → share (config_of d.state).settings g.0 ≤ length (holds (config_of d.state) g d).records

-- whenever a guest holds less than its share there is room in the table
abbrev pub RoomWithinShare : Type 0
RoomWithinShare =
    (d : Device) → sound d ≡ true → (g : Guest) → g.0 < (config_of d.state).settings.guests
    → length (holds (config_of d.state) g d).records < share (config_of d.state).settings g.0
    → length (read d).records < max_records

-- 7. "NOTHING CHANGES", on any device whose arrays have their lengths

-- the numbers of which 01 says "nothing changes"
abbrev pub changes_nothing : ℕ → Bool
changes_nothing n = any? (eqb n) (1 ∷ 2 ∷ 3 ∷ 4 ∷ 6 ∷ [])

abbrev pub RefusalsChangeNothing : Type 0
RefusalsChangeNothing =
    (d : Device) → Lengths d.state → (x : Call) → changes_nothing (number (step d x).0.answer) ≡ true
    → ((step d x).1 ≡ d) × ((step d x).0.buffer ≡ lent x)

-- "Any status but OK changes nothing except the four status bytes."
abbrev pub FailuresChangeNothing : Type 0
FailuresChangeNothing =
    (d : Device) → Lengths d.state
    → (g : Guest) (readable writable : List ℕ) → number (step d (of_guest g (request readable writable))).0.answer ≡ 0
    → (status_in (step d (of_guest g (request readable writable))).0.buffer ≡ OK → ⊥)
    → (step d (of_guest g (request readable writable))).1 ≡ d

-- a PROBE, of any status
abbrev pub ProbesChangeNothing : Type 0
ProbesChangeNothing =
    (d : Device) → Lengths d.state
    → (g : Guest) (readable writable : List ℕ) → type_of readable ≡ PROBE
    → (step d (of_guest g (request readable writable))).1 ≡ d

-- an access that goes through
abbrev pub ThroughChangesNothing : Type 0
ThroughChangesNothing =
    (d : Device) → Lengths d.state → (a : Access) → number (step d (access_by a)).0.answer ≡ 0 → (step d (access_by a)).1 ≡ d

-- of set-up: "table untouched; the state given back has every number zero"
abbrev pub RefusedSetUpIsZero : Type 0
RefusedSetUpIsZero =
    (c : Config) (table : List ℕ) → (number (set_up c table).answer ≡ 0 → ⊥)
    → (set_up c table).device ≡ record { state = zero_state; table = table }

-- 8. "EACH IS GIVEN EXACTLY UNDER ITS CONDITION", on any device: the number is that of the first condition that holds, in the
-- order that 01 gives for the call, and 0 where none holds

abbrev pub first_number : List (Bool × ℕ) → ℕ
first_number [] = 0
first_number (c ∷ l) = cond c.0 c.1 (first_number l)

-- "guest number not below the guest count"
abbrev pub no_such_guest : Device → Guest → Bool
no_such_guest d g = leb d.state.settings.guests g.0

-- "Requests: 1, 2, 4 (below 4 bytes), 3, 4 (lengths)."
abbrev pub RequestNumbers : Type 0
RequestNumbers =
    (d : Device) (g : Guest) (readable writable : List ℕ)
    → number (step d (of_guest g (request readable writable))).0.answer
    ≡ first_number ((no_such_guest d g, 1)
    ∷ (not (sound d), 2)
    -- "readable part below 4 bytes"
    ∷ (ltb (length readable) 4, 4)
    -- "types not 1 to 5"
    ∷ (ltb (type_of readable) 1 || ltb 5 (type_of readable), 3)
    -- "a part's length not the type's"
    ∷ (not (eqb (length readable) (readable_length (type_of readable))) || not (eqb (length writable) (writable_length (type_of readable))), 4)
    ∷ [])

-- "Reset and fetch: 1, 2."
abbrev pub ResetNumbers : Type 0
ResetNumbers =
    (d : Device) (g : Guest)
    → number (step d (of_guest g reset)).0.answer ≡ first_number ((no_such_guest d g, 1) ∷ (not (sound d), 2) ∷ [])

abbrev pub FetchNumbers : Type 0
FetchNumbers =
    (d : Device) (g : Guest) (buffer : List ℕ)
    → number (step d (of_guest g (fetch buffer))).0.answer ≡ first_number ((no_such_guest d g, 1) ∷ (not (sound d), 2) ∷ [])

-- "7 or 8": by the attachment of guest g's endpoint
abbrev pub attached_number : Device → Access → Guest → Option Domain → ℕ
attached_number d a g none = 7
attached_number d a g (some domain) = cond (any? (permits (key_of g domain) a) (read d).records) 0 8

-- "6, then 7 or 8": by the endpoint's owner
abbrev pub owned_number : Device → Access → Option Guest → ℕ
owned_number d a none = 6
owned_number d a (some g) = attached_number d a g (attached_to d g a.endpoint)

-- "Access: 2, 6, then 7 or 8."
abbrev pub AccessNumbers : Type 0
AccessNumbers =
    (d : Device) (a : Access)
    → number (step d (access_by a)).0.answer ≡ cond (not (sound d)) 2 (owned_number d a (caller (config_of d.state) (access_by a)))

-- "Set-up: 2 (length [..]), then 5."
abbrev pub SetUpNumbers : Type 0
SetUpNumbers =
    (c : Config) (table : List ℕ)
    → number (set_up c table).answer ≡ first_number ((not (eqb (length table) table_words), 2) ∷ (not (good c), 5) ∷ [])
