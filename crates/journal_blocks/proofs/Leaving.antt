-- What the code's results tell of an advance.
use Rattle.std.proofs.Common.{◌≡◌, ℕ, ◌+◌, ◌-◌, ◌%◌, ◌^◌, ◌≤◌, Bool, true, false, cond, ◌&&◌, ◌||◌, eqb, leb, List, [], length, take, sym, refl, ap, ◌∙◌, arith, length-take-le, eqb-true}
use Rattle.laws.proofs.Tests.{both_left}
use Rattle.journal_text.specs.Placing.{line_room, placed, written, written_count}
use Rattle.journal_text.proofs.Places.{placed-none}
use Rattle.journal_line_plain.specs.Plain.{last_line}
use Rattle.journal_session.specs.declared.session.Session.{Session}
use Rattle.journal_session.specs.declared.session.StepResult.{StepResult}
use Rattle.journal_session.specs.Steps.{RecordStep}
use Rattle.journal_session.specs.Matching.{Matches}
use Rattle.journal_run.specs.Journal.{played}
use Rattle.journal_run.proofs.Stopping.{played-reads, played-unread}
use Rattle.journal_rest.specs.Blocks.{kept_count, kept}
use Rattle.journal_blocks.specs.declared.Progress.{Progress}
use Rattle.journal_blocks.specs.Advances.{held_with, is_over, advance, Leaves}
use Rattle.journal_blocks.proofs.Keeping.{kept-count}

-- a line put at the front, where there is room for one
line_first : (line out : List ℕ) →
    let put = cond (leb line_room (length out)) line [] in
    (written_count line_room 0 line out ≡ length put) × (written line_room 0 line out ≡ placed 0 put out)
unfolding written written_count
line_first line out = go (leb line_room (length out))
  where
    go : (b : Bool) → (cond b (length line) 0 ≡ length (cond b line [])) × (cond b (placed 0 line out) out ≡ placed 0 (cond b line []) out)
    go true = (refl, refl)
    go false = (refl, sym (placed-none 0 out))

-- what is put: the last line where the journal is over, else the lines of the records worked
abbrev Puts : Bool → List ℕ → List ℕ → List ℕ → ℕ → List ℕ → Type 0
Puts over last lines out n left = (n ≡ length (cond over (cond (leb line_room (length out)) last []) lines)) × (left ≡ placed 0 (cond over (cond (leb line_room (length out)) last []) lines) out)

puts : (over : Bool) (last lines out : List ℕ) {k n : ℕ} {mid left : List ℕ}
    → (over ≡ true → lines ≡ [])
    → k ≡ length lines
    → mid ≡ placed 0 lines out
    → (n ≡ cond over (written_count line_room 0 last mid) k) × (left ≡ cond over (written line_room 0 last mid) mid)
    → Puts over last lines out n left
puts false last lines out h a b p = (p.0 ∙ a, p.1 ∙ b)
puts true last lines out h a b p =
    let e : placed 0 lines out ≡ out = ap (λ z. placed 0 z out) (h refl) ∙ placed-none 0 out in
    let q = rw (b, e) at p in
    (q.0 ∙ (line_first last out).0, q.1 ∙ (line_first last out).1)

module _ (p : Progress) (t block out : List ℕ) (got : ℕ) where
  abbrev H : ℕ
  H = held_with p block got

  abbrev X : RecordStep
  X = played (length out) p.session t (take H block)

  -- no more is read than is held
  reads_held : X.read ≤ H
  reads_held =
      let l = length-take-le H block (omega arith) in
      omega (arith, l, played-reads (length out) p.session t (take H block))

  -- where the journal is over, no line was put before the last
  none_before : is_over p got X ≡ true → X.printed ≡ []
  none_before e =
      ap (λ x. x.printed) (played-unread (length out) p.session t (take H block) (eqb-true X.read 0 (both_left (eqb X.read 0) (X.bad || (p.wants && eqb got 0)) e)))

  pub leaves :
      (u : Session) (r : StepResult) (offset left n : ℕ) (words mid rest last : List ℕ)
      → Matches u r words out mid 0 X
      → (left ≡ kept_count r.read H block) × (rest ≡ kept r.read H block)
      → offset ≡ (p.offset + r.read) % 2 ^ 64
      → (n ≡ cond (eqb r.read 0 && (r.bad || (p.wants && eqb got 0))) (written_count line_room 0 (last_line left offset) mid) r.printed)
      × (last ≡ cond (eqb r.read 0 && (r.bad || (p.wants && eqb got 0))) (written line_room 0 (last_line left offset) mid) mid)
      → Leaves (record { session = u; offset = offset; held = left; wants = eqb r.read 0 }) (record { printed = n; finished = eqb r.read 0 && (r.bad || (p.wants && eqb got 0)) }) words rest out last (advance (length out) p t block got)
  unfolding advance
  leaves u r offset left n words mid rest last tells k o e =
      let kept-all = rw tells.read at k in
      let held : left ≡ H - X.read = kept-all.0 ∙ kept-count X.read H block reads_held (omega arith) in
      let at : offset ≡ (p.offset + X.read) % 2 ^ 64 = rw tells.read at o in
      let e' = rw (tells.read, tells.bad, held, at) at e in
      let put = puts (is_over p got X) (last_line (H - X.read) ((p.offset + X.read) % 2 ^ 64)) X.printed out none_before tells.printed tells.lines e' in
      rw (tells.session, tells.read, tells.bad, held, at)
      (record {
        progress = refl;
        words = tells.words;
        rest = kept-all.1;
        printed = put.0;
        lines = put.1;
        finished = refl;
      })
