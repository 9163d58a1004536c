use native.Mathlib.Omega.{arith}
use Prim.Native.Nat.{ℕ, suc, ◌+◌, ◌<◌}
use mathlib.Core.Path.{◌≡◌, sym, ◌∙◌}
use mathlib.Core.List.{List}
use mathlib.Core.Bool.{true, false, cond, ◌&&◌, and-false}
use lib.Dec.{ltb, eqb}
use lib.ListN.{length, get_or, take, drop}
use borrow.Author.Tests.{eq-eqb, ne_eqb, lt-ltb, le-ltb}
use Rattle.rules.specs.declared.Mapping.{Mapping}
use Rattle.rules.specs.Table.{records}
use Rattle.table_record.specs.Records.{no_mapping}
use Rattle.map_steps.specs.declared.limits.Limits.{Limits}
use Rattle.map_steps.specs.Forms.{form_good, run}
use Rattle.map_steps.proofs.Going.{run_at}
use Rattle.map_steps.proofs.runs.run_end.Goals as goal

module _ (t : List ℕ) (live : ℕ) (l : Limits) (key : ℕ) where
  -- how many of the records from place i on go on with the domain, after one that ends at `end`
  abbrev going : ℕ → ℕ → ℕ
  going i end = run (form_good l) key end (drop i (take live (records t)))

  -- the record x at place i goes on, and so may those after it, or none does
  step : (n i end : ℕ) (x : Mapping) → n ≡ length (take live (records t)) → i < n → x ≡ get_or (records t) i no_mapping
      → going i end ≡ cond (eqb x.key key && (ltb end x.start && form_good l x)) (suc (going (i + 1) x.end)) 0
  step n i end x e h r = run_at (records t) live i x (rw (← e) h) r (form_good l) key end

pub returns-then-r-key : goal.returns-then-r-key
returns-then-r-key c =
    let a = c.args in
    let x = c.get-r.result in
    let z = step a.t.now a.live a.limits.now a.key c.bounded-n.result c.loop-i.i c.loop-i.before x c.bounded-n.ensures.0 (omega arith) c.get-r.ensures in
    omega (arith, rw (ne_eqb x.key a.key (λ e. omega arith)) at z)

pub returns-then-r-before : goal.returns-then-r-before
returns-then-r-before c =
    let a = c.args in
    let x = c.get-r.result in
    let z = step a.t.now a.live a.limits.now a.key c.bounded-n.result c.loop-i.i c.loop-i.before x c.bounded-n.ensures.0 (omega arith) c.get-r.ensures in
    omega (arith, rw (le-ltb c.loop-i.before x.start (omega arith), and-false) at z)

pub returns-then-not-form_good : goal.returns-then-not-form_good
returns-then-not-form_good c =
    let a = c.args in
    let x = c.get-r.result in
    let z = step a.t.now a.live a.limits.now a.key c.bounded-n.result c.loop-i.i c.loop-i.before x c.bounded-n.ensures.0 (omega arith) c.get-r.ensures in
    let f : form_good a.limits.now x ≡ false = sym c.form_good.ensures ∙ c.if-not-form_good.true in
    omega (arith, rw (f, and-false, and-false) at z)

pub loop-i-preserved : goal.loop-i-preserved
loop-i-preserved c =
    let a = c.args in
    let x = c.get-r.result in
    let z = step a.t.now a.live a.limits.now a.key c.bounded-n.result c.loop-i.i c.loop-i.before x c.bounded-n.ensures.0 (omega arith) c.get-r.ensures in
    let f : form_good a.limits.now x ≡ true = sym c.form_good.ensures ∙ c.if-not-form_good.false in
    let y = rw (eq-eqb x.key a.key (omega arith), lt-ltb c.loop-i.before x.start (omega arith), f) at z in
    omega arith
