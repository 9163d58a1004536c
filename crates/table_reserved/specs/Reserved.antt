-- Records of a domain on the reserved regions of an endpoint, region by region.
use Rattle.std.specs.Prelude.{ℕ, Bool, ◌&&◌, List, ltb, length, get_or}
use Rattle.laws.specs.Lists.{any?}
use Rattle.rules.specs.declared.Mapping.{Mapping}
use Rattle.rules.specs.declared.Region.{Region}
use Rattle.rules.specs.Table.{mapping, overlap}
use Rattle.table_record.specs.Records.{no_mapping}
use Rattle.table_search.specs.Halving.{last_up_to}

-- a record of the key's domain over a region's addresses
abbrev pub record_over : ℕ → Region → Mapping
record_over key q = mapping key q.start q.end 0 0

-- of the records l, the one that the search finds for the region's last address is of the key's domain and overlaps the region: where
-- they are in order, that is whether any of them does
unfoldable pub region_met : ℕ → List Mapping → Region → Bool
region_met key l q = ltb 0 (length l) && overlap (record_over key q) (get_or l (last_up_to key q.end l) no_mapping)

-- so it is for one of the regions
unfoldable pub regions_met : ℕ → List Mapping → List Region → Bool
regions_met key l qs = any? (region_met key l) qs
