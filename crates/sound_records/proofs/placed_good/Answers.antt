use native.Mathlib.Omega.{arith}
use Prim.Native.Nat.{ℕ, ◌<◌, ◌≤◌, ◌+◌, ◌-◌}
use mathlib.Core.Path.{◌≡◌, refl, sym, ap, ◌∙◌}
use mathlib.Core.Bool.{Bool, true, false, ◌&&◌, ◌||◌, and-false}
use mathlib.Core.List.{List}
use lib.Dec.{leb, ltb, eqb}
use lib.ListN.{length, get_or, take, drop, length-drop}
use lib.Seq.{length-take-le, drop-drop}
use borrow.Author.Tests.{le-leb, ne_eqb}
use Rattle.laws.specs.Lists.{below}
use Rattle.laws.proofs.Tests.{both}
use Rattle.rules.specs.declared.State.{State}
use Rattle.rules.specs.declared.Mapping.{Mapping}
use Rattle.rules.specs.Sizes.{max_guests}
use Rattle.rules.specs.Configuration.{share}
use Rattle.rules.specs.Table.{records, guest_of}
use Rattle.table_record.specs.Records.{no_mapping}
use Rattle.table_record.proofs.Laws.{gone}
use Rattle.map_steps.specs.Forms.{limits_at, form_good, run}
use Rattle.map_steps.proofs.Going.{run-within}
use Rattle.sound_records.specs.Scan.{own_good, domain_good, scan, opening}
use Rattle.sound_records.proofs.GoingOn.{after_run}
use Rattle.sound_records.proofs.Passing.{own-within, own-beyond, opening-at, count-run, count-end}
use Rattle.sound_records.proofs.placed_good.Goals as goal

module _ (s : State) (t : List ℕ) where
  -- the records, and the tests of one: its own, and of its domain
  abbrev all : List Mapping
  all = take s.live (records t)

  abbrev own : Mapping → Bool
  own = own_good s.settings

  abbrev held : Mapping → Bool
  held = domain_good s.listed s.owners s.attached s.domains

  abbrev scanned : Bool
  scanned = scan own held true no_mapping all

  length-all : s.live ≤ length (records t) → length all ≡ s.live
  length-all h = length-take-le s.live (records t) h

  -- what the pass says at the record x at place i, where a and d are its tests and v is both
  passes : (key i : ℕ) (x : Mapping) → s.live ≤ length (records t) → i < s.live → x ≡ get_or (records t) i no_mapping → scanned ≡ opening own held (eqb i 0) key (drop i all)
      → (a d v : Bool) → a ≡ (own x && (eqb i 0 || ltb key x.key)) → d ≡ held x → (a && d) ≡ v → scanned ≡ (v && scan own held false x (drop (i + 1) all))
  passes key i x few h e z a d v ha hd hv = z ∙ opening-at (records t) s.live i x (rw (length-all few) h) e own held (eqb i 0) key a d v ha hd hv

  -- and after those that go on with its domain, up to place m
  passed : (i m : ℕ) (x : Mapping) → guest_of x < s.settings.guests → m ≡ i + 1 + run (form_good (limits_at s.settings (guest_of x))) x.key x.end (drop (i + 1) all)
      → scan own held false x (drop (i + 1) all) ≡ opening own held (eqb m 0) x.key (drop m all)
  passed i m x w e =
      let F : Mapping → Bool = form_good (limits_at s.settings (guest_of x)) in
      let k : ℕ = run F x.key x.end (drop (i + 1) all) in
      after_run own F held x.key (λ q h. own-within s.settings q (rw h w) ∙ rw h) x refl (drop (i + 1) all)
      ∙ ap (opening own held false x.key) (drop-drop k (i + 1) all ∙ ap (λ (n : ℕ). drop n all) (sym e))
      ∙ rw (ne_eqb m 0 (λ n. omega arith))

  -- the records of the domain end at a place there is
  ended : (i m : ℕ) (x : Mapping) (f : Mapping → Bool) → s.live ≤ length (records t) → i < s.live → m ≡ i + 1 + run f x.key x.end (drop (i + 1) all) → m ≤ s.live
  ended i m x f few h e =
      let q : run f x.key x.end (drop (i + 1) all) ≤ length all - (i + 1) = rw (← length-drop (i + 1) all) (run-within f x.key x.end (drop (i + 1) all)) in
      omega (arith, length-all few)

pub returns-then-g-s : goal.returns-then-g-s
returns-then-g-s c =
    let s = c.args.s.now in
    let t = c.args.t.now in
    let x = c.get-r.result in
    let v = c.loop-i.invariant in
    rw (passes s t c.loop-i.key c.loop-i.i x c.requires.3 c.loop-i-test.true c.get-r.ensures v.scanned false (held s t x) false (rw (own-beyond s.settings x (omega arith))) refl refl)

pub returns-then-not-opens : goal.returns-then-not-opens
returns-then-not-opens c =
    let s = c.args.s.now in
    let t = c.args.t.now in
    let x = c.get-r.result in
    let v = c.loop-i.invariant in
    let o : c.opens.result ≡ (own s t x && (eqb c.loop-i.i 0 || ltb c.loop-i.key x.key)) = rw (own-within s.settings x (omega arith)) (rw c.limits_at-limits.ensures at c.opens.ensures) in
    rw (passes s t c.loop-i.key c.loop-i.i x c.requires.3 c.loop-i-test.true c.get-r.ensures v.scanned c.opens.result (held s t x) false o refl (ap (λ (b : Bool). b && held s t x) c.if-not-opens.true))

pub returns-then-not-domain_held : goal.returns-then-not-domain_held
unfolding domain_good
returns-then-not-domain_held c =
    let s = c.args.s.now in
    let t = c.args.t.now in
    let x = c.get-r.result in
    let v = c.loop-i.invariant in
    let o : c.opens.result ≡ (own s t x && (eqb c.loop-i.i 0 || ltb c.loop-i.key x.key)) = rw (own-within s.settings x (omega arith)) (rw c.limits_at-limits.ensures at c.opens.ensures) in
    let d : c.domain_held.result ≡ held s t x = rw c.domain_of.ensures at c.domain_held.ensures in
    rw (passes s t c.loop-i.key c.loop-i.i x c.requires.3 c.loop-i-test.true c.get-r.ensures v.scanned c.opens.result c.domain_held.result false o d (ap (λ (b : Bool). c.opens.result && b) c.if-not-domain_held.true ∙ and-false c.opens.result))

pub loop-i-preserved : goal.loop-i-preserved
unfolding domain_good
loop-i-preserved c =
    let s = c.args.s.now in
    let t = c.args.t.now in
    let x = c.get-r.result in
    let i = c.loop-i.i in
    let m = c.run_end-next.result in
    let v = c.loop-i.invariant in
    let F : Mapping → Bool = form_good (limits_at s.settings (guest_of x)) in
    let e : m ≡ i + 1 + run F x.key x.end (drop (i + 1) (all s t)) = rw c.limits_at-limits.ensures at c.run_end-next.ensures in
    let o : c.opens.result ≡ (own s t x && (eqb i 0 || ltb c.loop-i.key x.key)) = rw (own-within s.settings x (omega arith)) (rw c.limits_at-limits.ensures at c.opens.ensures) in
    let d : c.domain_held.result ≡ held s t x = rw c.domain_of.ensures at c.domain_held.ensures in
    let z : scanned s t ≡ scan (own s t) (held s t) false x (drop (i + 1) (all s t)) =
    passes s t c.loop-i.key i x c.requires.3 c.loop-i-test.true c.get-r.ensures v.scanned c.opens.result c.domain_held.result true o d (both c.opens.result c.domain_held.result c.if-not-opens.false c.if-not-domain_held.false) in
    record {
      within = ended s t i m x F c.requires.3 c.loop-i-test.true e;
      scanned = z ∙ passed s t i m x (omega arith) e;
      counted = count-run (records t) s.live i x (rw (length-all s t c.requires.3) c.loop-i-test.true) c.get-r.ensures F c.loop-i.counts (run F x.key x.end (drop (i + 1) (all s t))) m refl e (omega arith) v.counted;
    }

pub returns : goal.returns
returns c =
    let s = c.args.s.now in
    let t = c.args.t.now in
    let i = c.loop-i.i in
    let v = c.loop-i.invariant in
    let h : length (all s t) ≤ i = omega (arith, length-all s t c.requires.3) in
    let kept : Bool = below s.settings.guests (λ g. leb (get_or c.loop-i.counts g 0) (share s.settings g)) in
    let z : scanned s t ≡ true = v.scanned ∙ ap (opening (own s t) (held s t) (eqb i 0) c.loop-i.key) (gone (records t) s.live i h) in
    c.shares_kept.ensures
    ∙ ap (λ (b : Bool). b && kept) (le-leb s.settings.guests max_guests (omega arith))
    ∙ count-end s.settings (records t) s.live i c.loop-i.counts h (omega arith) v.counted
    ∙ rw z
