-- The place that halving finds is looked for among the n places from a on.
use native.Mathlib.Omega.{arith}
use borrow.Author.Rules.{rules}
use Prim.Native.Nat.{ℕ, ◌+◌, ◌-◌, ◌*◌, ◌/◌, ◌≤◌, ◌<◌}
use mathlib.Core.Path.{◌≡◌, sym, ap, ◌∙◌}
use mathlib.Core.Bool.{Bool, true, false, cond}
use mathlib.Core.List.{List}
use lib.ListN.{length, get_or, take, length-take}
use lib.Seq.{get_or-take}
use Rattle.rules.specs.declared.Mapping.{Mapping}
use Rattle.rules.specs.Sizes.{record_words}
use Rattle.rules.specs.Table.{records}
use Rattle.table_record.specs.Records.{no_mapping}
use Rattle.table_record.proofs.Words.{loaded-record}
use Rattle.table_search.specs.Halving.{up_to, halved, last_up_to}
use Rattle.table_search.proofs.Halves.{halved-next, halved-last}
use Rattle.table_search.proofs.last_up_to.Statement.{statement}
use Rattle.table_search.proofs.last_up_to.Tie as tie

-- the test of a place
abbrev passes : ℕ → ℕ → List Mapping → ℕ → Bool
passes key address l i = up_to key address (get_or l i no_mapping)

abbrev invariant-loop-n : tie.invariant-loop-n
invariant-loop-n t live key address a₀ n₀ a n =
    (a + n ≤ length (take live (records t)))
    × (last_up_to key address (take live (records t)) ≡ halved n (passes key address (take live (records t))) a n)

abbrev decreases-loop-n : tie.decreases-loop-n
decreases-loop-n t live key address a₀ n₀ a n = n

loop-holds : tie.Need-loop-n-init invariant-loop-n decreases-loop-n
unfolding last_up_to
loop-holds c = (omega (arith, c.bounded-n.ensures.0), rw c.bounded-n.ensures.0)

-- one of two places, neither of which is past the last
module _ (a n m : ℕ) (h : a + n ≤ m) where
  pub picked-within : (b : Bool) → cond b (a + n / 2) a + (n - n / 2) ≤ m
  picked-within true = omega arith
  picked-within false = omega arith

-- the words of a record of those that are left
inside : (c : tie.In-loop-n invariant-loop-n decreases-loop-n) → record_words * (c.before.loop-n.a + c.before.loop-n.n / 2) + 1 < length c.before.before.before.before.args.t.now
inside c = let b = c.before.before.bounded-n.ensures in omega (arith, b.0, b.2, c.before.loop-n.invariant.0)

loop-again : tie.Need-loop-n-preserved invariant-loop-n decreases-loop-n
loop-again c =
    let u = c.before in
    let s = u.before.before.before.before in
    let a = s.before.before.before.args in
    let l = take a.live (records a.t.now) in
    let m = s.loop-n.a + s.loop-n.n / 2 in
    let more : 1 < s.loop-n.n = omega arith in
    let within : m < length (records a.t.now) = omega (arith, length-take a.live (records a.t.now), s.loop-n.invariant.0) in
    let low : m < a.live = omega (arith, length-take a.live (records a.t.now), s.loop-n.invariant.0) in
    let test : u.is_up_to.result ≡ passes a.key a.address l m = u.is_up_to.ensures ∙ ap (up_to a.key a.address) (loaded-record a.t.now m within ∙ sym (get_or-take a.live (records a.t.now) m no_mapping low)) in
    let place : c.pick-a.result ≡ cond (passes a.key a.address l m) m s.loop-n.a = c.pick-a.ensures ∙ rw test in (
      rw place (picked-within s.loop-n.a s.loop-n.n (length l) s.loop-n.invariant.0 (passes a.key a.address l m)),
      s.loop-n.invariant.1 ∙ halved-next (passes a.key a.address l) s.loop-n.a s.loop-n.n more ∙ rw place,
    )

returns : tie.Need-returns invariant-loop-n decreases-loop-n
returns c =
    let s = c.before in
    sym (s.loop-n.invariant.1 ∙ halved-last _ s.loop-n.a s.loop-n.n (omega arith))

pub last_up_to_spec : {M : Type 1} → statement M
last_up_to_spec =
    tie.close
    (tie.spec
    invariant-loop-n
    decreases-loop-n
    (λ c κs. search rules)
    loop-holds
    (λ c. search rules)
    (λ c. let h = inside c in search rules)
    (λ c. let h = inside c in search rules)
    (λ c. let h = inside c.before in omega arith)
    (λ c. let h = inside c.before in search rules)
    (λ c. let h = inside c.before in search rules)
    (λ c. inside c.before.before)
    (λ c κs. search rules)
    (λ c κs. search rules)
    (λ c. search rules)
    (λ c. search rules)
    loop-again
    returns)
