-- What the pass has yet to say is what it says of the records from place i on, whose first opens a domain; the counts are of those before.
use Rattle.sound_records.proofs.placed_good.Given as goal
use Prim.Native.Nat.{◌≤◌, ◌-◌}
use mathlib.Core.Path.{◌≡◌}
use mathlib.Core.Bool.{true}
use lib.Dec.{eqb}
use lib.ListN.{take, drop}
use Rattle.rules.specs.Table.{records}
use Rattle.table_record.specs.Records.{no_mapping}
use Rattle.sound_records.specs.Scan.{own_good, domain_good, scan, opening}
use Rattle.sound_records.proofs.Passing.{Counted}

abbrev pub invariant-loop-i : goal.invariant-loop-i
invariant-loop-i l =
    let own = own_good l.s.settings in
    let held = domain_good l.s.listed l.s.owners l.s.attached l.s.domains in
    record {
      within : l.i ≤ l.s.live;
      scanned : scan own held true no_mapping (take l.s.live (records l.t)) ≡ opening own held (eqb l.i 0) l.key (drop l.i (take l.s.live (records l.t)));
      counted : Counted l.counts l.i (take l.s.live (records l.t));
    }

abbrev pub decreases-loop-i : goal.decreases-loop-i
decreases-loop-i l = l.s.live - l.i
