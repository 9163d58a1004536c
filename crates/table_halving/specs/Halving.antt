-- What the search by halving finds, and how many records it reads.
use Rattle.std.specs.Prelude.{ℕ, zero, suc, ◌-◌, ◌/◌, cond, List, ltb, length, get_or}
use Rattle.std.proofs.Math.Option.{Option, some, none}
use Rattle.rules.specs.declared.Mapping.{Mapping}
use Rattle.table_record.specs.Records.{no_mapping}
use Rattle.table_search.specs.Halving.{last_up_to}

-- half of n places
abbrev pub half : ℕ → ℕ
half n = n / 2

-- how many halvings, of k at most, leave one of n places
unfoldable pub halvings : ℕ → ℕ → ℕ
halvings zero n = 0
halvings (suc k) n = cond (ltb n 2) 0 (suc (halvings k (n - half n)))

-- the last of the records that does not stand after an address of the key's domain, where they are in order, and the first where all
-- do; none where there are no records
unfoldable pub last_record : ℕ → ℕ → List Mapping → Option Mapping
last_record key address l = cond (ltb 0 (length l)) (some (get_or l (last_up_to key address l) no_mapping)) none

-- how many of n records are read for it: one for each halving, and the one that is found
unfoldable pub search_reads : ℕ → ℕ
search_reads n = cond (ltb 0 n) (suc (halvings n n)) 0
