-- "A journal is a run of records: one byte of kind, then a body whose length the kind fixes, numbers little-endian."
use Rattle.std.specs.Prelude.{ℕ, suc, ◌-◌, ◌<◌, ◌≤◌, cond, List, leb, ltb, eqb, length, get_or, take, drop}
use Rattle.laws.specs.Bytes.{le_field}
use Rattle.rules.specs.declared.Guest.{Guest}
use Rattle.rules.specs.declared.Endpoint.{Endpoint}
use Rattle.rules.specs.declared.Region.{Region}
use Rattle.rules.specs.Sizes.{max_faults}
use Rattle.journal_records.specs.declared.GuestFields.{GuestFields}
use Rattle.journal_records.specs.declared.StartFields.{StartFields}
use Rattle.journal_records.specs.declared.Item.{Item}
use Rattle.journal_records.specs.declared.Item.TheVariants.{Cut, Wrong, NamedGuest, NamedEndpoint, Start, NamedRegion, Request, Probe, AccessBy, Reset, Fetch}

-- the kinds
abbrev pub GUEST : ℕ
GUEST = 1

abbrev pub ENDPOINT : ℕ
ENDPOINT = 2

abbrev pub START : ℕ
START = 3

abbrev pub REGION : ℕ
REGION = 4

abbrev pub REQUEST20 : ℕ
REQUEST20 = 17

abbrev pub REQUEST28 : ℕ
REQUEST28 = 18

abbrev pub REQUEST36 : ℕ
REQUEST36 = 19

abbrev pub REQUEST72 : ℕ
REQUEST72 = 20

abbrev pub ACCESS : ℕ
ACCESS = 33

abbrev pub RESET : ℕ
RESET = 34

abbrev pub FETCH : ℕ
FETCH = 35

-- the bytes of the longest body: "0x14 guest, 72 bytes"
abbrev pub longest_body : ℕ
longest_body = 73

-- the bytes of a body by its kind; 0 for an unknown kind: "0x01 guest: share 2, window 8 + 8. 0x02 endpoint: number 4, owner
-- 1. 0x03 start: mask 8, input range 8 + 8, domain range 4 + 4. 0x11, 0x12, 0x13: guest 1, then 20, 28 or 36 request bytes.
-- 0x21: endpoint 4, address 8, 0 read or 1 write. 0x22 reset: guest. 0x23 fetch: guest, records asked (0 to 16)."
-- "0x04 region (endpoint 4, subtype 1, start 8, end 8 [..]); 0x14 guest, 72 bytes"
unfoldable pub body_length : ℕ → ℕ
body_length k =
    cond (eqb k GUEST) 18
    (cond (eqb k ENDPOINT) 5
    (cond (eqb k START) 32
    (cond (eqb k REGION) 21
    (cond (eqb k REQUEST20) 21
    (cond (eqb k REQUEST28) 29
    (cond (eqb k REQUEST36) 37
    (cond (eqb k REQUEST72) longest_body
    (cond (eqb k ACCESS) 13
    (cond (eqb k RESET) 1
    (cond (eqb k FETCH) 2 0))))))))))

-- the record at the front of the rest of a journal: its kind, its bytes with the kind byte
abbrev pub kind_of : List ℕ → ℕ
kind_of s = get_or s 0 0

abbrev pub size_of : List ℕ → ℕ
size_of s = suc (body_length (kind_of s))

abbrev pub guest_at : ℕ → List ℕ → Guest
guest_at i s = record { 0 = get_or s i 0 }

abbrev pub endpoint_at : ℕ → List ℕ → Endpoint
endpoint_at i s = record { 0 = le_field i 4 s }

abbrev pub guest_fields : List ℕ → GuestFields
guest_fields s = record { share = le_field 1 2 s; first = le_field 3 8 s; last = le_field 11 8 s }

abbrev pub start_fields : List ℕ → StartFields
start_fields s =
    record {
      mask = le_field 1 8 s;
      input = record { start = le_field 9 8 s; end = le_field 17 8 s };
      domains = record { start = le_field 25 4 s; end = le_field 29 4 s };
    }

abbrev pub region_fields : List ℕ → Region
region_fields s = record { subtype = get_or s 5 0; start = le_field 6 8 s; end = le_field 14 8 s }

-- the request bytes of a record
abbrev pub request_bytes : List ℕ → List ℕ
request_bytes s = take (size_of s - 2) (drop 2 s)

-- the fields of a whole record; "a last byte of 0x21 or 0x23 out of range" is wrong
unfoldable pub item_of : List ℕ → Item
item_of s =
    cond (eqb (kind_of s) GUEST) (NamedGuest (guest_fields s))
    (cond (eqb (kind_of s) ENDPOINT) (NamedEndpoint (endpoint_at 1 s) (guest_at 5 s))
    (cond (eqb (kind_of s) START) (Start (start_fields s))
    (cond (eqb (kind_of s) REGION) (NamedRegion (endpoint_at 1 s) (region_fields s))
    (cond (eqb (kind_of s) REQUEST72) (Probe (guest_at 1 s))
    (cond (eqb (kind_of s) ACCESS) (cond (leb (get_or s 13 0) 1) (AccessBy (record { endpoint = endpoint_at 1 s; address = le_field 5 8 s; kind = get_or s 13 0 })) Wrong)
    (cond (eqb (kind_of s) RESET) (Reset (guest_at 1 s))
    (cond (eqb (kind_of s) FETCH) (cond (leb (get_or s 2 0) max_faults) (Fetch (guest_at 1 s) (get_or s 2 0)) Wrong)
    (Request (guest_at 1 s)))))))))

-- what stands at the front of the rest of a journal: an unknown kind is wrong, a record that is not all there is cut
unfoldable pub front : List ℕ → Item
front s =
    cond (eqb (length s) 0) Cut
    (cond (eqb (body_length (kind_of s)) 0) Wrong
    (cond (ltb (length s) (size_of s)) Cut
    (item_of s)))

-- the record at the front is of a known kind and all there
abbrev pub Fits : List ℕ → Type 0
Fits s = (0 < length s) × (0 < body_length (kind_of s)) × (size_of s ≤ length s)
