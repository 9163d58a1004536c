use native.Mathlib.Omega.{arith}
use Prim.Native.Nat.{◌+◌, ◌*◌, ◌<◌, ◌≤◌}
use mathlib.Core.Path.{◌≡◌, sym, ap, ◌∙◌}
use lib.ListN.{length, get_or, take, length-take}
use lib.Seq.{get_or-take}
use borrow.Author.Tests.{le-leb, eqb-true, eqb-false}
use Rattle.std.specs.Prelude.{Some}
use Rattle.rules.specs.Sizes.{record_words}
use Rattle.rules.specs.Table.{records}
use Rattle.rules.proofs.Words.{length-records}
use Rattle.table_record.specs.Records.{no_mapping}
use Rattle.table_record.proofs.Words.{loaded-record}
use Rattle.table_lookup.specs.Outcomes.{found_of}
use Rattle.table_search.specs.Halving.{last_up_to}
use Rattle.table_search.proofs.Ordered.{last_within}
use Rattle.table_halving.proofs.Halves.{halvings-few}
use Rattle.table_halving.proofs.Outcomes.{last_some, last_none, reads-some, reads_none}
use Rattle.table_halving.proofs.search.last_record.Goals as goal

pub returns-then-is_empty-clause-found_value : goal.returns-then-is_empty-clause-found_value
unfolding found_of
returns-then-is_empty-clause-found_value c =
    let a = c.args in
    let l = take a.live (records a.t.now) in
    let empty : length l ≤ 0 = omega (arith, eqb-true (length l) 0 (sym c.is_empty.ensures ∙ c.if-is_empty.true)) in
    ap found_of (sym (last_none a.key a.address l empty))

pub returns-then-is_empty-clause-reads_value : goal.returns-then-is_empty-clause-reads_value
returns-then-is_empty-clause-reads_value c =
    let l = take c.args.live (records c.args.t.now) in
    let empty : length l ≤ 0 = omega (arith, eqb-true (length l) 0 (sym c.is_empty.ensures ∙ c.if-is_empty.true)) in
    sym (reads_none (length l) empty)

pub overflow_add-reads : goal.overflow_add-reads
overflow_add-reads c =
    let a = c.args in
    let m = length (take a.live (records a.t.now)) in
    omega (arith, c.last_place-place.ensures.reads_value, halvings-few m m, length-take a.live (records a.t.now), length-records a.t.now)

pub returns-clause-found_value : goal.returns-clause-found_value
unfolding found_of
returns-clause-found_value c =
    let a = c.args in
    let l = take a.live (records a.t.now) in
    let place = last_up_to a.key a.address l in
    let filled : 0 < length l = omega (arith, eqb-false (length l) 0 (sym c.is_empty.ensures ∙ c.if-is_empty.false)) in
    let within : place < length l = last_within a.key a.address l filled in
    let held : record_words * place + record_words ≤ length a.t.now = omega (arith, within, length-take a.live (records a.t.now), length-records a.t.now) in
    let read : c.get_at-r.result ≡ get_or l place no_mapping = c.get_at-r.ensures ∙ rw (c.last_place-place.ensures.word_value, le-leb (record_words * place + record_words) (length a.t.now) held) (loaded-record a.t.now place (omega (arith, within, length-take a.live (records a.t.now))) ∙ sym (get_or-take a.live (records a.t.now) place no_mapping (omega (arith, within, length-take a.live (records a.t.now))))) in
    ap Some read ∙ sym (ap found_of (last_some a.key a.address l filled))

pub returns-clause-reads_value : goal.returns-clause-reads_value
returns-clause-reads_value c =
    let l = take c.args.live (records c.args.t.now) in
    let filled : 0 < length l = omega (arith, eqb-false (length l) 0 (sym c.is_empty.ensures ∙ c.if-is_empty.false)) in
    omega (arith, c.last_place-place.ensures.reads_value, reads-some (length l) filled)
