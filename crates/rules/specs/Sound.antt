-- "State and table are sound when:" every test of five groups passes, those of the frame, of the places, of the logs, of
-- the records and of the reserved regions; and what they ask of one guest's part.
use Rattle.std.specs.Prelude.{ℕ, ◌*◌, ◌/◌, ◌%◌, Bool, true, false, cond, not, ◌&&◌, ◌||◌, List, [], ◌∷◌, leb, ltb, eqb, length, get_or, drop}
use Rattle.std.proofs.Math.Option.{Option, some, none}
use Rattle.laws.specs.Lists.{all?, every?, pairwise, below, first_failing}
use Rattle.rules.specs.declared.Guest.{Guest}
use Rattle.rules.specs.declared.Settings.{Settings}
use Rattle.rules.specs.declared.Domain.{Domain}
use Rattle.rules.specs.declared.State.{State}
use Rattle.rules.specs.declared.Mapping.{Mapping}
use Rattle.rules.specs.declared.Fault.{Fault}
use Rattle.rules.specs.Sizes.{endpoint_region_words, max_records, record_words, table_words, max_faults, fault_places, max_lost}
use Rattle.rules.specs.Configuration.{Config, share, endpoint_regions, used_words, good}
use Rattle.rules.specs.Table.{guest_of, domain_of, before, apart}
use Rattle.rules.specs.State.{Attachment, World, Device, config_of, read, fault_at, domain_at}
use Rattle.rules.specs.Guests.{Own, Part, own, part, records_of}
use Rattle.rules.specs.Handlers.{outside, listed, regions_in, on_region, record_steps}

abbrev pub guest : ℕ → Guest
guest g = record { 0 = g }

-- no step fails
abbrev pub passes : {A : Type 0} → Option A → Bool
passes none = true
passes (some a) = false

-- every place from n on is zero
unfoldable pub zero_from : ℕ → List ℕ → Bool
zero_from n l = all? (eqb 0) (drop n l)

-- THE FRAME: table, configuration and counts

abbrev pub frame_tests : Device → List Bool
frame_tests d =
    -- "table length is not 1,280 words"
    eqb (length d.table) table_words
    -- "the configuration is good", with as many endpoints as the state counts
    ∷ good (config_of d.state)
    ∷ eqb (length (config_of d.state).endpoints) d.state.listed
    -- "the live count is at most 256"
    ∷ leb d.state.live max_records
    ∷ []

-- THE PLACES of guests and of endpoints

-- "every attached endpoint's domain lies in the domain range and every unattached one holds 0"; the flag is 0 or 1
unfoldable pub attachment_good : Config → ℕ → Domain → Bool
attachment_good c flag d =
    (eqb flag 1 && not (outside c.settings.domains.start c.settings.domains.end d.0)) || (eqb flag 0 && eqb d.0 0)

-- "Guest and endpoint places not in use are zero too"
abbrev pub unused_tests : State → List Bool
unused_tests s =
    zero_from s.settings.guests s.settings.shares
    ∷ zero_from s.settings.guests s.settings.firsts
    ∷ zero_from s.settings.guests s.settings.lasts
    ∷ zero_from s.settings.guests s.logged
    ∷ zero_from s.settings.guests s.lost
    ∷ zero_from s.listed s.endpoints
    ∷ zero_from s.listed s.owners
    ∷ zero_from s.listed s.attached
    ∷ zero_from s.listed s.domains
    ∷ []

abbrev pub place_tests : State → List Bool
place_tests s =
    -- "every attached endpoint's domain lies in the domain range and every unattached one holds 0"
    below s.listed (λ i. attachment_good (config_of s) (get_or s.attached i 0) (domain_at s i))
    -- "log counts are at most 16, lost counts at most 65,535"
    ∷ below s.settings.guests (λ g. leb (get_or s.logged g 0) max_faults)
    ∷ below s.settings.guests (λ g. leb (get_or s.lost g 0) max_lost)
    -- "unused places zero"
    ∷ every? (unused_tests s)
    ∷ []

-- THE LOGS of faults

-- "each logged fault has the form below and names an endpoint of its guest": reason 1 or 2, READ or WRITE plus ADDRESS
unfoldable pub fault_good : Own → Fault → Bool
fault_good o f =
    (eqb f.reason 1 || eqb f.reason 2) && ((eqb f.flags 257 || eqb f.flags 258) && listed f.endpoint o.endpoints)

abbrev pub fault_zero : Fault → Bool
fault_zero f = (eqb f.reason 0 && eqb f.flags 0) && (eqb f.endpoint.0 0 && eqb f.address 0)

-- place i of the faults is in use, as the log's count says
abbrev pub fault_used : State → ℕ → Bool
fault_used s i = ltb (i % max_faults) (get_or s.logged (i / max_faults) 0)

-- place i of the faults: in use, with a fault of its guest's; else zero
unfoldable pub fault_place_good : Config → State → ℕ → Bool
fault_place_good c s i = cond (fault_used s i) (fault_good (own c (guest (i / max_faults))) (fault_at s i)) (fault_zero (fault_at s i))

abbrev pub log_tests : State → List Bool
log_tests s =
    -- "unused places zero, and each logged fault has the form below and names an endpoint of its guest"
    below fault_places (fault_place_good (config_of s) s)
    ∷ []

-- THE RECORDS of the table

-- "every record would pass steps 1 to 6 of MAP", for its guest, whose attachments are l, and the domain that its first word names
unfoldable pub record_good : Own → List Attachment → Mapping → Bool
record_good o l r = passes (first_failing (record_steps o l (domain_of r) r))

-- a record would pass steps 1 to 6 of MAP for the guest and the domain that its first word names
abbrev pub record_passes : Config → World → Mapping → Bool
record_passes c w r = record_good (own c (guest (guest_of r))) (part c (guest (guest_of r)) w).attachments r

-- "no guest holds more than its share"
abbrev pub shares_kept : Settings → List Mapping → Bool
shares_kept s l = below s.guests (λ g. leb (length (records_of (guest g) l)) (share s g))

abbrev pub record_tests : Device → List Bool
record_tests d =
    -- "order and zero words are as above"
    pairwise before (read d).records
    ∷ zero_from (record_words * d.state.live) d.table
    -- "every record would pass steps 1 to 6 of MAP"
    ∷ all? (record_passes (config_of d.state) (read d)) (read d).records
    -- "no two records of one guest and domain overlap"
    ∷ pairwise apart (read d).records
    -- "no guest holds more than its share"
    ∷ shares_kept d.state.settings (read d).records
    ∷ []

-- THE RESERVED REGIONS

-- the record overlaps no region of an endpoint in its domain, where l are its guest's attachments
unfoldable pub off_regions : Own → List Attachment → Mapping → Bool
off_regions o l r = not (on_region (regions_in (domain_of r) l o.regions) r)

-- so it is for the guest that the record's first word names
abbrev pub record_clear : Config → World → Mapping → Bool
record_clear c w r = off_regions (own c (guest (guest_of r))) (part c (guest (guest_of r)) w).attachments r

-- "unused region places are zero": those of endpoints not in use, and of each endpoint those past its regions
abbrev pub region_zeros : State → List Bool
region_zeros s =
    zero_from (endpoint_region_words * s.listed) s.regions
    ∷ below s.listed (λ i. zero_from (used_words s.regions i) (endpoint_regions s.regions i))
    ∷ []

abbrev pub reserved_tests : Device → List Bool
reserved_tests d =
    every? (region_zeros d.state)
    -- "Soundness gains the same rule": no record overlaps "a region of any endpoint in the domain"
    ∷ all? (record_clear (config_of d.state) (read d)) (read d).records
    ∷ []

-- document 01's term "sound": every test of the five groups passes
unfoldable pub sound : Device → Bool
sound d =
    every? (every? (frame_tests d)
    ∷ every? (place_tests d.state)
    ∷ every? (log_tests d.state)
    ∷ every? (record_tests d)
    ∷ every? (reserved_tests d)
    ∷ [])

-- ONE GUEST'S PART, AND WHAT IS NO GUEST'S

-- "every attached endpoint's domain lies in the domain range"
unfoldable pub in_range : Own → Attachment → Bool
in_range o none = true
in_range o (some d) = not (outside o.domains.start o.domains.end d.0)

-- what soundness asks of a guest's part
abbrev pub part_tests : Own → Part → List Bool
part_tests o p =
    -- "every attached endpoint's domain lies in the domain range"
    all? (in_range o) p.attachments
    -- "ascending by first word, then by virt_start"
    ∷ pairwise before p.records
    -- "every record would pass steps 1 to 6 of MAP"
    ∷ all? (record_good o p.attachments) p.records
    -- "overlapping a region of any endpoint in the domain"
    ∷ all? (off_regions o p.attachments) p.records
    -- "no two records of one guest and domain overlap"
    ∷ pairwise apart p.records
    -- "no guest holds more than its share"
    ∷ leb (length p.records) o.share
    -- "log counts are at most 16, lost counts at most 65,535"
    ∷ leb (length p.log.faults) max_faults
    ∷ leb p.log.lost max_lost
    -- "each logged fault has the form below and names an endpoint of its guest"
    ∷ all? (fault_good o) p.log.faults
    ∷ []

-- an attached flag is 0 or 1, "and every unattached one holds 0"
unfoldable pub flag_good : ℕ → Domain → Bool
flag_good flag d = eqb flag 1 || (eqb flag 0 && eqb d.0 0)

-- what soundness asks besides, of what is no guest's part
abbrev pub common_tests : Device → List Bool
common_tests d =
    -- "the configuration is good; the live count is at most 256", and the table's length
    every? (frame_tests d)
    -- every record is a guest's, and the guests' records stand in the guests' order
    ∷ all? (λ r. ltb (guest_of r) d.state.settings.guests) (read d).records
    ∷ pairwise (λ r s. leb (guest_of r) (guest_of s)) (read d).records
    -- "all other words are zero"
    ∷ zero_from (record_words * d.state.live) d.table
    -- "every unattached one holds 0"
    ∷ below d.state.listed (λ i. flag_good (get_or d.state.attached i 0) (domain_at d.state i))
    -- "unused places zero"
    ∷ every? (unused_tests d.state)
    ∷ every? (region_zeros d.state)
    ∷ below fault_places (λ i. fault_used d.state i || fault_zero (fault_at d.state i))
    ∷ []
