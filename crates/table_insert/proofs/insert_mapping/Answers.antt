use native.Mathlib.Omega.{arith}
use mathlib.Core.Path.{◌≡◌, sym, ap, ◌∙◌}
use mathlib.Core.Bool.{false}
use lib.Dec.{ltb}
use lib.ListN.{length, take}
use borrow.Author.Tests.{le-ltb}
use Rattle.rules.specs.Table.{records, insert_mapping}
use Rattle.table_insert.specs.Inserted.{insert_at, inserted_words}
use Rattle.rules.proofs.Words.{length-records}
use Rattle.table_insert.proofs.Inserted.{insert-place, inserted-words}
use Rattle.table_insert.proofs.insert_mapping.Goals as goal

pub returns-then-live-t : goal.returns-then-live-t
returns-then-live-t c =
    let a = c.args in
    let L = take a.live (records a.t.now) in
    let p : insert_at c.insertion_index-at.result a.r L ≡ insert_mapping a.r L = ap (λ n. insert_at n a.r L) c.insertion_index-at.ensures.0 ∙ insert-place a.r L in
    c.shift_in.ensures ∙ rw p (sym (inserted-words a.live a.r a.t.now (omega (arith, length-records a.t.now))))

pub returns-else-live-t : goal.returns-else-live-t
unfolding inserted_words
returns-else-live-t c =
    let a = c.args in
    let e : ltb a.live (length (records a.t.now)) ≡ false = le-ltb a.live (length (records a.t.now)) (omega (arith, length-records a.t.now)) in
    rw e

pub insertion_index-at-requires : goal.insertion_index-at-requires
insertion_index-at-requires c =
    omega (arith, length-records c.args.t.now)

pub shift_in-requires : goal.shift_in-requires
shift_in-requires c =
    (omega arith, omega (arith, length-records c.args.t.now))
