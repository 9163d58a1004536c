-- The configuration that a journal names before its start. It is gathered in the places of the state that set-up would fill.
use Rattle.std.specs.Prelude.{ℕ, suc, ◌+◌, ◌*◌, ◌<◌, ◌≤◌, ◌≡◌, Bool, ◌&&◌, List, [], ◌∷◌, ◌++◌, ltb, length, take, set}
use Rattle.rules.specs.Sizes.{max_endpoints, max_regions, region_words, endpoint_region_words, region_places}
use Rattle.rules.specs.declared.Guest.{Guest}
use Rattle.rules.specs.declared.Endpoint.{Endpoint}
use Rattle.rules.specs.declared.Region.{Region}
use Rattle.rules.specs.declared.Settings.{Settings}
use Rattle.rules.specs.declared.State.{State}
use Rattle.rules.specs.Configuration.{region_count, regions_at}
use Rattle.state_endpoints.specs.Search.{index_of}
use Rattle.state_fields.specs.Fields.{with_guests, with_ranges, with_lists}
use Rattle.journal_records.specs.declared.GuestFields.{GuestFields}
use Rattle.journal_records.specs.declared.StartFields.{StartFields}

-- one guest more
abbrev pub guest_named : GuestFields → Settings → Settings
guest_named f s =
    with_guests (s.guests + 1) (set s.shares s.guests f.share) (set s.firsts s.guests f.first) (set s.lasts s.guests f.last) s

-- one endpoint more
abbrev pub endpoint_named : Endpoint → Guest → State → State
endpoint_named e g s = with_lists (s.listed + 1) (set s.endpoints s.listed e.0) (set s.owners s.listed g.0) s

-- where the word of region j of endpoint i stands that has place k among the region's
abbrev pub region_place : ℕ → ℕ → ℕ → ℕ
region_place i j k = endpoint_region_words * i + suc (region_words * j + k)

-- the words with region q as region j of endpoint i, and its last
abbrev pub region_put : ℕ → ℕ → Region → List ℕ → List ℕ
region_put i j q words =
    set (set (set (set words (endpoint_region_words * i) (suc j)) (region_place i j 0) q.subtype) (region_place i j 1) q.start) (region_place i j 2) q.end

-- the place of an endpoint among those named: its first
abbrev pub named_place : ℕ → List ℕ → Endpoint → ℕ
named_place n endpoints e = index_of e.0 (take n endpoints)

-- one region more may be named: not "for an endpoint not yet named or as its fifth region"
unfoldable pub region_taken : ℕ → List ℕ → List ℕ → Endpoint → Bool
region_taken n endpoints words e =
    ltb (named_place n endpoints e) (length (take n endpoints)) && ltb (region_count words (named_place n endpoints e)) max_regions

-- one region more, after those that its endpoint has
unfoldable pub region_named : ℕ → List ℕ → List ℕ → Endpoint → Region → List ℕ
region_named n endpoints words e q = region_put (named_place n endpoints e) (region_count words (named_place n endpoints e)) q words

-- a region that is named is the last of its endpoint's regions, "in set-up order"
abbrev pub NamedLast : Type 0
NamedLast =
    (i : ℕ) (q : Region) (words : List ℕ) → length words ≡ region_places → i < max_endpoints → region_count words i < max_regions
    → regions_at (region_put i (region_count words i) q words) i ≡ regions_at words i ++ (q ∷ [])

-- and the regions of any other endpoint stay
abbrev pub OthersStay : Type 0
OthersStay =
    (i k : ℕ) (q : Region) (words : List ℕ) → (k ≡ i → ⊥) → region_count words i < max_regions → region_count words k ≤ max_regions
    → regions_at (region_put i (region_count words i) q words) k ≡ regions_at words k

-- the mask and the two ranges that a start names
abbrev pub ranges_named : StartFields → Settings → Settings
ranges_named f s = with_ranges f.mask f.input f.domains s
