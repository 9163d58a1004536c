use Prim.Native.Nat.{ℕ, ◌+◌, ◌*◌, ◌≤◌}
use mathlib.Core.Path.{◌≡◌}
use lib.ListN.{length, get_or, take}
use Rattle.rules.specs.Sizes.{record_words}
use Rattle.rules.specs.Table.{records}
use Rattle.table_record.specs.Records.{no_mapping}
use Rattle.table_search.specs.Halving.{up_to, halved, last_up_to}
use Rattle.table_halving.specs.Halving.{halvings}
use Rattle.table_halving.proofs.halving.last_place.Given as goal

-- The place that halving finds is looked for among the n places from a on, the record at a beginning at the word that is kept.
abbrev pub invariant-loop-n : goal.invariant-loop-n
invariant-loop-n l =
    (a : ℕ)
    × (l.word ≡ record_words * a)
    × (a + l.n ≤ length (take l.live (records l.t)))
    × (last_up_to l.key l.address (take l.live (records l.t)) ≡ halved l.n (λ i. up_to l.key l.address (get_or (take l.live (records l.t)) i no_mapping)) a l.n)
    × (l.reads + halvings l.n l.n ≡ halvings (length (take l.live (records l.t))) (length (take l.live (records l.t))))

abbrev pub decreases-loop-n : goal.decreases-loop-n
decreases-loop-n l = l.n
