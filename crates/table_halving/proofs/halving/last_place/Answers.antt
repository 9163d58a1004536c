use native.Mathlib.Omega.{arith}
use Prim.Native.Nat.{ℕ, ◌+◌, ◌-◌, ◌*◌, ◌≤◌, ◌<◌}
use mathlib.Core.Path.{◌≡◌, sym, ap, ◌∙◌}
use mathlib.Core.Bool.{Bool, true, false, cond}
use mathlib.Core.List.{List}
use lib.ListN.{length, get_or, take, length-take}
use lib.Seq.{get_or-take}
use Rattle.rules.specs.declared.Mapping.{Mapping}
use Rattle.rules.specs.Sizes.{record_words}
use Rattle.rules.specs.Table.{records}
use Rattle.table_record.specs.Records.{no_mapping, loaded}
use Rattle.table_record.proofs.Words.{loaded-record}
use Rattle.table_search.specs.Halving.{up_to, last_up_to}
use Rattle.table_search.proofs.Halves.{halved-next, halved-last}
use Rattle.table_halving.specs.Halving.{half, halvings}
use Rattle.table_halving.proofs.Halves.{halvings-next, halvings-last, halvings-few, halvings-bits}
use Rattle.table_halving.proofs.halving.last_place.Goals as goal

-- the test of a place
abbrev passes : ℕ → ℕ → List Mapping → ℕ → Bool
passes key address l i = up_to key address (get_or l i no_mapping)

pub loop-n-init : goal.loop-n-init
unfolding last_up_to
loop-n-init c =
    let b = c.bounded-n.ensures.0 in
    (0, omega arith, omega (arith, b), rw b, rw b (omega arith))

-- one of two places, neither of which is past the last
module _ (a n m : ℕ) (some : 0 < n) (h : a + n ≤ m) where
  picked-within : (b : Bool) → cond b (a + half n) a + (n - half n) ≤ m
  picked-within true = omega arith
  picked-within false = omega arith

-- and the word at which its record begins
picked-word : (word a h : ℕ) → word ≡ record_words * a → (b : Bool) → cond b (word + record_words * h) word ≡ record_words * cond b (a + h) a
picked-word word a h e true = omega arith
picked-word word a h e false = e

-- a read can be counted: there are no more of them than records
pub overflow_add-reads : goal.overflow_add-reads
overflow_add-reads c =
    let m = length (take c.args.live (records c.args.t.now)) in
    let h : c.loop-n.reads < m = omega (arith, halvings-next c.loop-n.n (omega arith), halvings-few m m, c.loop-n.invariant.4) in
    let b : m ≤ c.args.live = omega (arith, length-take c.args.live (records c.args.t.now)) in
    omega arith

pub loop-n-preserved : goal.loop-n-preserved
loop-n-preserved c =
    let s = c.loop-n in
    let g = c.args in
    let l = take g.live (records g.t.now) in
    let a = s.invariant.0 in
    let h = half s.n in
    let more : 1 < s.n = omega arith in
    let within : a + h < length (records g.t.now) = omega (arith, length-take g.live (records g.t.now), s.invariant.2) in
    let low : a + h < g.live = omega (arith, length-take g.live (records g.t.now), s.invariant.2) in
    let middle : s.word + record_words * c.half-step.result ≡ record_words * (a + h) = omega (arith, c.half-step.ensures, s.invariant.1) in
    let read : loaded g.t.now (s.word + record_words * c.half-step.result) ≡ get_or l (a + h) no_mapping = ap (λ i. loaded g.t.now i) middle ∙ loaded-record g.t.now (a + h) within ∙ sym (get_or-take g.live (records g.t.now) (a + h) no_mapping low) in
    let test : c.is_up_to-passes.result ≡ passes g.key g.address l (a + h) = c.is_up_to-passes.ensures ∙ ap (up_to g.key g.address) read in
    let word : c.pick-word.result ≡ record_words * cond (passes g.key g.address l (a + h)) (a + h) a = c.pick-word.ensures ∙ rw (test, c.half-step.ensures) (picked-word s.word a h s.invariant.1 (passes g.key g.address l (a + h))) in (
      cond (passes g.key g.address l (a + h)) (a + h) a,
      word,
      rw c.half-step.ensures (picked-within a s.n (length l) (omega arith) s.invariant.2 (passes g.key g.address l (a + h))),
      s.invariant.3 ∙ halved-next (passes g.key g.address l) a s.n more ∙ rw c.half-step.ensures,
      rw c.half-step.ensures (omega (arith, halvings-next s.n more, s.invariant.4)),
    )

pub returns-clause-word_value : goal.returns-clause-word_value
returns-clause-word_value c =
    let s = c.loop-n in
    s.invariant.1 ∙ ap (λ i. record_words * i) (sym (s.invariant.3 ∙ halved-last _ s.invariant.0 s.n (omega arith)))

pub returns-clause-reads_value : goal.returns-clause-reads_value
returns-clause-reads_value c = omega (arith, halvings-last c.loop-n.n (omega arith), c.loop-n.invariant.4)

pub returns-clause-reads_bound : goal.returns-clause-reads_bound
returns-clause-reads_bound c =
    let m = length (take c.args.live (records c.args.t.now)) in
    let reads : c.loop-n.reads ≡ halvings m m = omega (arith, halvings-last c.loop-n.n (omega arith), c.loop-n.invariant.4) in
    λ h. omega (arith, reads, halvings-bits m 11 m (omega (arith, h, length-take c.args.live (records c.args.t.now))))
