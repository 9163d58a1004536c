-- The sizes of document 01, each named once for the definitions, as src/sizes.rt names them for the code.
use Rattle.std.specs.Prelude.{ℕ, suc, ◌+◌, ◌-◌, ◌*◌, ◌^◌}

-- "one to four guests"
abbrev pub max_guests : ℕ
max_guests = 4

-- "at most 32 entries"
abbrev pub max_endpoints : ℕ
max_endpoints = 32

-- "up to four reserved regions"
abbrev pub max_regions : ℕ
max_regions = 4

-- the words of a region: "subtype [..], start, end"
abbrev pub region_words : ℕ
region_words = 3

-- the words for an endpoint's regions: their number, then those of each region
abbrev pub endpoint_region_words : ℕ
endpoint_region_words = suc (region_words * max_regions)

-- the words for the regions of all endpoints
abbrev pub region_places : ℕ
region_places = endpoint_region_words * max_endpoints

-- "256 records of five words"
abbrev pub max_records : ℕ
max_records = 256

abbrev pub record_words : ℕ
record_words = 5

-- "1,280 lent 64-bit words"
abbrev pub table_words : ℕ
table_words = record_words * max_records

-- "a fault log of at most 16 records"
abbrev pub max_faults : ℕ
max_faults = 16

-- the places for the faults of all guests
abbrev pub fault_places : ℕ
fault_places = max_faults * max_guests

-- "a lost count that stops at 65,535"
abbrev pub max_lost : ℕ
max_lost = 65535

-- "Fault record, 24 bytes"
abbrev pub fault_size : ℕ
fault_size = 24

-- "Writable part: exactly 4 bytes, status then three zeros"
abbrev pub status_size : ℕ
status_size = 4

-- a property: type 2, length 2, and the 20 bytes of "type 1, length 20"
abbrev pub property_size : ℕ
property_size = 24

-- "writable 128 bytes of properties and a 4-byte tail"
abbrev pub properties_size : ℕ
properties_size = 128

-- "Used length is 132"
abbrev pub probe_size : ℕ
probe_size = properties_size + status_size

-- the 2^32 of "guest × 2^32 + domain"
abbrev pub domain_span : ℕ
domain_span = 2 ^ 32

-- the last address there is: addresses have 64 bits
abbrev pub top_address : ℕ
top_address = 2 ^ 64 - 1
