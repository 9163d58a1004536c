use native.Mathlib.Omega.{arith}
use Prim.Native.Nat.{◌<◌, ◌≤◌}
use mathlib.Core.Path.{◌≡◌, refl, sym, ap, ◌∙◌}
use mathlib.Core.Bool.{Bool, true, false, not}
use mathlib.Core.List.{◌++◌, append-nil}
use lib.ListN.{length, get_or, take, drop, set}
use lib.Seq.{drop-set-lt, length-take-le}
use Rattle.laws.specs.Lists.{keep}
use Rattle.rules.specs.declared.Mapping.{Mapping}
use Rattle.rules.specs.Table.{records, words}
use Rattle.table_record.specs.Records.{no_mapping, spare}
use Rattle.table_remove.specs.Removed.{within, kept_of}
use Rattle.table_record.proofs.Laws.{gone, keep-no}
use Rattle.table_record.proofs.Stored.{same-records, wrote, drop-words}
use Rattle.table_remove.proofs.Closing.{close_up}
use Rattle.table_remove.proofs.Removed.{take_words}
use Rattle.table_remove.proofs.close_up.Goals as goal
use Rattle.table_remove.proofs.close_up.Goals.{then-not-is_within, else-not-is_within}

pub loop-i-preserved : goal.loop-i-preserved
loop-i-preserved c =
    let a = c.args in
    let T = records c.loop-i.t in
    let i = c.loop-i.i in
    let k = c.loop-i.kept in
    let q : Mapping → Bool = λ r. not (within a.low a.high a.a a.b r) in
    let x = get_or T i no_mapping in
    let m : i < length (take a.n T) = rw (length-take-le a.n T (omega arith)) (omega arith) in
    let r = c.get-r.ensures in
    let j = ap not (sym (c.is_within.ensures ∙ ap (within a.low a.high a.a a.b) r)) in
    elim c.if-not-is_within.branch [
      | then-not-is_within w ↦
          let y : q x ≡ true = j ∙ ap not w.if-not-is_within.true in
          let l : length c.if-not-is_within.t ≡ length a.t.now = ap length w.t-is ∙ w.write.auto.t ∙ c.loop-i.invariant.2 in
          let e : c.if-not-is_within.t ≡ words (set T k x) ++ spare c.loop-i.t = w.t-is ∙ w.write.ensures ∙ rw r in
          let v = wrote c.loop-i.t c.if-not-is_within.t (set T k x) e in (
            omega (arith, w.kept-is),
            omega arith,
            l,
            same-records c.if-not-is_within.t a.t.now l,
            rw (w.kept-is, v.0) (close_up q no_mapping T a.n i m k (omega arith) y ∙ c.loop-i.invariant.4),
            ap (drop a.n) v.0 ∙ drop-set-lt a.n T k x (omega arith) ∙ c.loop-i.invariant.5,
            v.1 ∙ c.loop-i.invariant.6,
          )
      | else-not-is_within w ↦
          let y : q x ≡ false = j ∙ ap not w.if-not-is_within.false in (
            omega (arith, w.kept-is),
            omega arith,
            ap length w.t-is ∙ c.loop-i.invariant.2,
            ap (λ t. length (records t)) w.t-is ∙ c.loop-i.invariant.3,
            rw (w.t-is, w.kept-is, ← keep-no q no_mapping T a.n i m y) c.loop-i.invariant.4,
            ap (λ t. drop a.n (records t)) w.t-is ∙ c.loop-i.invariant.5,
            ap spare w.t-is ∙ c.loop-i.invariant.6,
          )
    ]

pub returns : goal.returns
unfolding kept_of
returns c =
    let a = c.args in
    let t = c.loop-i.t in
    let T = records t in
    let k = c.loop-i.kept in
    let q : Mapping → Bool = λ r. not (within a.low a.high a.a a.b r) in
    let m : length (take a.n T) ≤ c.loop-i.i = rw (length-take-le a.n T (omega arith)) (omega arith) in
    let f : take k T ≡ keep q (take a.n (records a.t.now)) = sym (append-nil (take k T)) ∙ (rw (gone T a.n c.loop-i.i m) at c.loop-i.invariant.4) in
    record {
      value = (sym (length-take-le k T (omega arith)) ∙ ap length f, omega arith);
      t_after = (
        take_words t k (omega arith) ∙ ap words f,
        drop-words t a.n (omega arith) ∙ rw (c.loop-i.invariant.5, c.loop-i.invariant.6) (sym (drop-words a.t.now a.n (omega arith))),
      );
    }

pub loop-i-init : goal.loop-i-init
loop-i-init c =
    (omega arith, omega arith, refl, refl, refl, refl, refl)

pub shape_of-t : goal.shape_of-t
shape_of-t c =
    omega arith
