-- "Set-up takes a guest count (1 to 4); per guest a share (records it may hold) and a memory window, first and last address; a
-- page_size_mask; an input range (64-bit); a domain range (32-bit); and two lent lists of equal length, endpoint numbers
-- (32-bit) and owners, at most 32 entries." "Each endpoint may be set up with up to four reserved regions".
use Rattle.std.specs.Prelude.{ℕ, suc, ◌+◌, ◌*◌, ◌/◌, ◌%◌, ◌^◌, Bool, not, ◌&&◌, List, [], ◌∷◌, leb, ltb, eqb, length, get_or, take, drop}
use Rattle.laws.specs.Lists.{all?, every?, pairwise, below, sum_below, tab}
use Rattle.rules.specs.declared.Settings.{Settings}
use Rattle.rules.specs.declared.Region.{Region}
use Rattle.rules.specs.Sizes.{max_guests, max_endpoints, max_regions, region_words, endpoint_region_words, max_records, domain_span}

-- what set-up takes besides the table; places of guests from the guest count on, and of an endpoint's regions from their number
-- on, are not looked at
pub record Config : Type 0 where
  pub settings : Settings
  pub endpoints : List ℕ
  pub owners : List ℕ
  -- for each endpoint the number of its regions, then subtype, start and end of each
  pub regions : List ℕ

-- the share of guest g, "records it may hold"
abbrev pub share : Settings → ℕ → ℕ
share s g = get_or s.shares g 0

-- the first and the last address of guest g's window
abbrev pub window_first : Settings → ℕ → ℕ
window_first s g = get_or s.firsts g 0

abbrev pub window_last : Settings → ℕ → ℕ
window_last s g = get_or s.lasts g 0

-- the addresses from a to b and those from c to d have one in common
abbrev pub ranges_meet : ℕ → ℕ → ℕ → ℕ → Bool
ranges_meet a b c d = leb a d && leb c b

-- the windows of guests g and h have an address in common
abbrev pub share_address : Settings → ℕ → ℕ → Bool
share_address s g h = ranges_meet (window_first s g) (window_last s g) (window_first s h) (window_last s h)

-- "Configuration is good when:" each of these tests passes
abbrev pub settings_tests : Settings → List Bool
settings_tests s =
    -- "the guest count is 1 to 4"
    leb 1 s.guests
    ∷ leb s.guests max_guests
    -- "each window's first ≤ last"
    ∷ below s.guests (λ g. leb (window_first s g) (window_last s g))
    -- "no two windows share an address"
    ∷ below s.guests (λ g. below g (λ h. not (share_address s g h)))
    -- "shares sum to at most 256"
    ∷ leb (sum_below s.guests (share s)) max_records
    -- "the mask is not zero"
    ∷ not (eqb s.mask 0)
    -- "both ranges have start ≤ end"
    ∷ leb s.input.start s.input.end
    ∷ leb s.domains.start s.domains.end
    -- "an input range (64-bit); a domain range (32-bit)"
    ∷ ltb s.input.end (2 ^ 64)
    ∷ ltb s.domains.end domain_span
    ∷ []

abbrev pub list_tests : Settings → List ℕ → List ℕ → List Bool
list_tests s endpoints owners =
    -- "the lists have equal length of at most 32"
    eqb (length endpoints) (length owners)
    ∷ leb (length endpoints) max_endpoints
    -- "owners are below the guest count"
    ∷ all? (λ o. ltb o s.guests) owners
    -- "no endpoint number appears twice"
    ∷ pairwise (λ a b. not (eqb a b)) endpoints
    ∷ []

-- THE RESERVED REGIONS, in words

-- how many regions endpoint i has
abbrev pub region_count : List ℕ → ℕ → ℕ
region_count words i = get_or words (endpoint_region_words * i) 0

-- word k of region j of endpoint i
abbrev pub region_word : List ℕ → ℕ → ℕ → ℕ → ℕ
region_word words i j k = get_or words (endpoint_region_words * i + suc (region_words * j + k)) 0

-- region j of endpoint i
abbrev pub region_at : List ℕ → ℕ → ℕ → Region
region_at words i j = record { subtype = region_word words i j 0; start = region_word words i j 1; end = region_word words i j 2 }

-- the regions of endpoint i, "in set-up order"
unfoldable pub regions_at : List ℕ → ℕ → List Region
regions_at words i = tab (region_count words i) (region_at words i)

-- the words for endpoint i
abbrev pub endpoint_regions : List ℕ → ℕ → List ℕ
endpoint_regions words i = take endpoint_region_words (drop (endpoint_region_words * i) words)

-- how many of them are in use: the number of regions, and the words of as many
abbrev pub used_words : List ℕ → ℕ → ℕ
used_words words i = suc (region_words * region_count words i)

-- word k is in use, for one of the first n endpoints
unfoldable pub region_used : ℕ → List ℕ → ℕ → Bool
region_used n words k = ltb (k / endpoint_region_words) n && ltb (k % endpoint_region_words) (used_words words (k / endpoint_region_words))

-- "subtype (0 reserved, 1 MSI)"
abbrev pub MSI : ℕ
MSI = 1

-- the addresses from a to b "overlap" the region
abbrev pub meets : ℕ → ℕ → Region → Bool
meets a b q = ranges_meet a b q.start q.end

-- the tests of an endpoint's regions
abbrev pub region_tests : List Region → List Bool
region_tests l =
    -- "up to four reserved regions"
    leb (length l) max_regions
    -- "a subtype above 1, or start > end, is 5"
    ∷ all? (λ r. leb r.subtype MSI) l
    ∷ all? (λ r. leb r.start r.end) l
    -- "at most one of them MSI"
    ∷ pairwise (λ a b. not (eqb a.subtype MSI && eqb b.subtype MSI)) l
    -- "none overlapping"
    ∷ pairwise (λ a b. not (meets a.start a.end b)) l
    ∷ []

-- the regions of n endpoints are good, in as many words as they have places for
unfoldable pub good_regions : ℕ → List ℕ → Bool
good_regions n words = eqb (length words) (endpoint_region_words * n) && below n (λ i. every? (region_tests (regions_at words i)))

unfoldable pub good_settings : Settings → Bool
good_settings s = every? (settings_tests s)

unfoldable pub good_lists : Settings → List ℕ → List ℕ → Bool
good_lists s endpoints owners = every? (list_tests s endpoints owners)

-- document 01's term: "Configuration is good"
unfoldable pub good : Config → Bool
good c = good_settings c.settings && (good_lists c.settings c.endpoints c.owners && good_regions (length c.endpoints) c.regions)
