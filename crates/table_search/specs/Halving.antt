-- The search by halving in the order "ascending by first word, then by virt_start".
use Rattle.std.specs.Prelude.{ℕ, zero, suc, ◌+◌, ◌-◌, ◌/◌, Bool, cond, ◌&&◌, ◌||◌, List, leb, ltb, eqb, length, get_or}
use Rattle.rules.specs.declared.Mapping.{Mapping}
use Rattle.table_record.specs.Records.{no_mapping}

-- the record does not stand after an address of the key's domain
abbrev pub up_to : ℕ → ℕ → Mapping → Bool
up_to key address r = ltb r.key key || (eqb r.key key && leb r.start address)

-- of n places from a on, one found by k halvings at most: each keeps the upper half if its first place passes the test, else the
-- lower. Where the places that pass come first, it is the last of them.
unfoldable pub halved : ℕ → (ℕ → Bool) → ℕ → ℕ → ℕ
halved zero q a n = a
halved (suc k) q a n = cond (ltb n 2) a (halved k q (cond (q (a + n / 2)) (a + n / 2) a) (n - n / 2))

-- the place of the last of the records that does not stand after an address of the key's domain, where they are in order; 0 where
-- there is none
unfoldable pub last_up_to : ℕ → ℕ → List Mapping → ℕ
last_up_to key address l = halved (length l) (λ i. up_to key address (get_or l i no_mapping)) 0 (length l)
