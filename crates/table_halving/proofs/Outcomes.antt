-- Laws of what a search gives.
use Prim.Native.Nat.{ℕ, suc, ◌<◌, ◌≤◌, ◌^◌}
use mathlib.Core.Path.{◌≡◌, refl}
use mathlib.Core.Bool.{Bool, true, false, cond}
use mathlib.Core.List.{List}
use mathlib.Core.Option.{Option, some, none}
use native.Mathlib.Omega.{arith}
use lib.Dec.{ltb}
use lib.ListN.{length, get_or}
use borrow.Author.Tests.{lt-ltb, le-ltb}
use Rattle.rules.specs.declared.Mapping.{Mapping}
use Rattle.table_record.specs.Records.{no_mapping}
use Rattle.table_search.specs.Halving.{last_up_to}
use Rattle.table_lookup.specs.Outcomes.{found_of}
use Rattle.table_halving.specs.Halving.{halvings, last_record, search_reads}
use Rattle.table_halving.specs.Outcomes.{option_of}
use Rattle.table_halving.proofs.Halves.{halvings-bits}

-- what the code gives for a record or none is that record or none
pub option-found : (o : Option Mapping) → option_of (found_of o) ≡ o
unfolding found_of option_of
option-found none = refl
option-found (some r) = refl

module _ (key address : ℕ) (l : List Mapping) where
  -- of some records the search finds one
  pub last_some : 0 < length l → last_record key address l ≡ some (get_or l (last_up_to key address l) no_mapping)
  unfolding last_record
  last_some h = rw (lt-ltb 0 (length l) h)

  -- of no records none
  pub last_none : length l ≤ 0 → last_record key address l ≡ none
  unfolding last_record
  last_none h = rw (le-ltb 0 (length l) h)

-- how many are read, of some records and of none
pub reads-some : (n : ℕ) → 0 < n → search_reads n ≡ suc (halvings n n)
unfolding search_reads
reads-some n h = rw (lt-ltb 0 n h)

pub reads_none : (n : ℕ) → n ≤ 0 → search_reads n ≡ 0
unfolding search_reads
reads_none n h = rw (le-ltb 0 n h)

-- one more than as many bits as count the records
pub reads-bits : (k n : ℕ) → n ≤ 2 ^ k → search_reads n ≤ suc k
unfolding search_reads
reads-bits k n h = go (ltb 0 n)
  where
    go : (b : Bool) → cond b (suc (halvings n n)) 0 ≤ suc k
    go true = omega (arith, halvings-bits n k n h)
    go false = omega arith
