-- "The mapping table is 1,280 lent 64-bit words: 256 records of five words (guest × 2^32 + domain, virt_start, virt_end,
-- phys_start, flags). Live records stand first, ascending by first word, then by virt_start; all other words are zero."
use Rattle.std.specs.Prelude.{ℕ, ◌+◌, ◌-◌, ◌*◌, ◌/◌, ◌%◌, Bool, cond, not, ◌&&◌, ◌||◌, List, [], ◌∷◌, ◌++◌, ltb, eqb, length, replicate}
use Rattle.rules.specs.declared.Guest.{Guest}
use Rattle.rules.specs.declared.Domain.{Domain}
use Rattle.rules.specs.declared.Mapping.{Mapping}
use Rattle.rules.specs.Sizes.{record_words, table_words, domain_span}
use Rattle.rules.specs.Configuration.{ranges_meet}

-- the record that five words hold
abbrev pub mapping : ℕ → ℕ → ℕ → ℕ → ℕ → Mapping
mapping k s e p f = record { key = k; start = s; end = e; phys = p; flags = f }

-- "guest × 2^32 + domain"
abbrev pub key_of : Guest → Domain → ℕ
key_of g d = g.0 * domain_span + d.0

-- the guest and the domain that a record's first word names
abbrev pub guest_of : Mapping → ℕ
guest_of r = r.key / domain_span

abbrev pub domain_of : Mapping → Domain
domain_of r = record { 0 = r.key % domain_span }

-- the records that words hold, five words to a record
abbrev pub records : List ℕ → List Mapping
records (a ∷ b ∷ c ∷ d ∷ e ∷ ws) = mapping a b c d e ∷ records ws
records [] = []
records (a ∷ []) = []
records (a ∷ b ∷ []) = []
records (a ∷ b ∷ c ∷ []) = []
records (a ∷ b ∷ c ∷ d ∷ []) = []

-- the words of records
abbrev pub words : List Mapping → List ℕ
words [] = []
words (r ∷ l) = r.key ∷ r.start ∷ r.end ∷ r.phys ∷ r.flags ∷ words l

-- "Live records stand first, [..]; all other words are zero."
unfoldable pub table_of : List Mapping → List ℕ
table_of l = words l ++ replicate (table_words - record_words * length l) 0

-- "ascending by first word, then by virt_start"
unfoldable pub before : Mapping → Mapping → Bool
before r s = ltb r.key s.key || (eqb r.key s.key && ltb r.start s.start)

-- two records of one guest and domain have an address in common
unfoldable pub overlap : Mapping → Mapping → Bool
overlap r s = eqb r.key s.key && ranges_meet r.start r.end s.start s.end

-- two records that have none
abbrev pub apart : Mapping → Mapping → Bool
apart r s = not (overlap r s)

-- a record at its place in the order
abbrev pub insert_mapping : Mapping → List Mapping → List Mapping
insert_mapping r [] = r ∷ []
insert_mapping r (s ∷ l) = cond (before r s) (r ∷ s ∷ l) (s ∷ insert_mapping r l)
