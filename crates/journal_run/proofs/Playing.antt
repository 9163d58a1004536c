-- The loop over the records of a part: what has been worked so far, and the steps that carry it on and end it.
use Prim.Native.Nat.{ℕ, ◌+◌, ◌-◌, ◌≤◌, ◌<◌}
use mathlib.Core.Path.{◌≡◌, refl, sym, ap, ◌∙◌}
use mathlib.Core.Bool.{false}
use mathlib.Core.List.{List, [], ◌++◌, append-nil, append_assoc}
use native.Mathlib.Nat.{zero-add, add-zero, add_assoc}
use native.Mathlib.Omega.{arith}
use lib.ListN.{length, take, drop, length-append, length-drop, take-append-drop, drop_of_length-le}
use lib.Seq.{length-take-le, take-append-add, drop-append-add, take-append_seam, drop-append_seam, drop-drop, take_all}
use borrow.Rule.Slice.PartMut.{put_mid, same_len_mid}
use Rattle.journal_text.specs.Placing.{placed}
use Rattle.journal_session.specs.declared.session.Session.{Session}
use Rattle.journal_session.specs.declared.session.StepResult.{StepResult}
use Rattle.journal_session.specs.Steps.{record_room, RecordStep, step_record}
use Rattle.journal_run.specs.Journal.{joined, played}
use Rattle.journal_session.specs.Matching.{step_result, Matches}
use Rattle.journal_step.proofs.Reading.{step-reads}
use Rattle.journal_run.proofs.Repeating.{play-full, play-stop, play-step}
use Rattle.journal_run.proofs.Stopping.{played-reads}

-- A LINE PUT AFTER OTHERS

module _ (start out line left : List ℕ) (k : ℕ) (same : length out ≡ length start) (fits : k ≤ length start) (rest : drop k out ≡ drop k start) (put : left ≡ placed k line out) (whole : length left ≡ length start) where
  head : length (take k out) ≡ k
  head = length-take-le k out (omega (arith, same, fits))

  size : length (placed k line out) ≡ k + (length line + (length out - (k + length line)))
  unfolding placed
  size =
      length-append (take k out) (line ++ drop (k + length line) out)
      ∙ rw (head, length-append line (drop (k + length line) out), length-drop (k + length line) out)

  pub fits_after : k + length line ≤ length start
  fits_after = omega (arith, same, whole, size, ap length put)

  pub lines_after : take (k + length line) left ≡ take k out ++ line
  unfolding placed
  lines_after =
      let x = take-append-add (take k out) (line ++ drop (k + length line) out) (length line) in
      let y : take (k + length line) (placed k line out) ≡ take k out ++ take (length line) (line ++ drop (k + length line) out) = rw head at x in
      ap (take (k + length line)) put ∙ y ∙ ap (λ z. take k out ++ z) (take-append_seam line (drop (k + length line) out))

  pub rest-after : drop (k + length line) left ≡ drop (k + length line) start
  unfolding placed
  rest-after =
      let x = drop-append-add (take k out) (line ++ drop (k + length line) out) (length line) in
      let y : drop (k + length line) (placed k line out) ≡ drop (length line) (line ++ drop (k + length line) out) = rw head at x in
      ap (drop (k + length line)) put
      ∙ y
      ∙ drop-append_seam line (drop (k + length line) out)
      ∙ sym (drop-drop (length line) k out)
      ∙ ap (drop (length line)) rest
      ∙ drop-drop (length line) k start

-- all that was put, from the buffer's front on
placed_first : (start out : List ℕ) (k : ℕ) → k ≤ length out → drop k out ≡ drop k start → out ≡ placed 0 (take k out) start
unfolding placed
placed_first start out k h e =
    let l : length (take k out) ≡ k = length-take-le k out h in
    rw (zero-add (length (take k out)), l, sym e) (sym (take-append-drop k out))

-- what was put at the front of a buffer's rest was put in the buffer
placed-rest : (out m line : List ℕ) (k : ℕ) → m ≡ placed 0 line (drop k out) → put_mid k (length out - k) out m ≡ placed k line out
unfolding placed
placed-rest out m line k e =
    let z : drop (length out - k) (drop k out) ≡ [] = drop_of_length-le (drop k out) {i = length out - k} (omega (arith, length-drop k out)) in
    rw (e, z, append-nil (line ++ drop (0 + length line) (drop k out)), zero-add (length line), drop-drop (length line) k out)

tells-rest : {q : Session} {r : StepResult} {t out m : List ℕ} {k : ℕ} {x : RecordStep} → Matches q r t (take (length out - k) (drop k out)) m 0 x → Matches q r t out (put_mid k (length out - k) out m) k x
tells-rest {out = out} {m = m} {k = k} {x = x} tells =
    let e : take (length out - k) (drop k out) ≡ drop k out = take_all (length out - k) (drop k out) (omega (arith, length-drop k out)) in
    record {
      session = tells.session;
      words = tells.words;
      read = tells.read;
      printed = tells.printed;
      bad = tells.bad;
      lines = placed-rest out m x.printed k (rw e at tells.lines);
    }

-- THE LOOP

-- bytes read and lines put so far, as a step's first part
abbrev so : Session → List ℕ → ℕ → List ℕ → RecordStep
so p t n line = record { session = p; table = t; read = n; printed = line; bad = false }

-- what was so far, a step, and what follows
regroup : (p : Session) (t line : List ℕ) (n : ℕ) (x y : RecordStep) → joined (so p t n line) (joined x y) ≡ joined (so x.session x.table (n + x.read) (line ++ x.printed)) y
regroup p t line n x y = rw (add_assoc n x.read y.read, append_assoc line x.printed y.printed)

-- after `read` bytes read and `printed` bytes put
pub record Went (p₀ : Session) (t₀ s start : List ℕ) (p : Session) (t out : List ℕ) (read printed : ℕ) : Type 0 where
  pub same : length out ≡ length start
  pub within : read ≤ length s
  pub fits : printed ≤ length start
  pub rest : drop printed out ≡ drop printed start
  pub total : played (length start) p₀ t₀ s ≡ joined (so p t read (take printed out)) (played (length start - printed) p t (drop read s))

module _ {p₀ : Session} {t₀ s start : List ℕ} {p : Session} {t out : List ℕ} {read printed : ℕ} (w : Went p₀ t₀ s start p t out read printed) where
  -- the bytes that are left, as they are lent
  left_of : take (length s - read) (drop read s) ≡ drop read s
  left_of = take_all (length s - read) (drop read s) (omega (arith, length-drop read s))

  -- what is worked next, from what was worked so far
  module _ {x : RecordStep} {q : Session} {r : StepResult} {t' out' : List ℕ} (tells : Matches q r t' out out' printed x) (whole : length out' ≡ length start) where
    after : (printed + length x.printed ≤ length start) × (take (printed + length x.printed) out' ≡ take printed out ++ x.printed) × (drop (printed + length x.printed) out' ≡ drop (printed + length x.printed) start)
    after = (
      fits_after start out x.printed out' printed w.same w.fits w.rest tells.lines whole,
      lines_after start out x.printed out' printed w.same w.fits w.rest tells.lines whole,
      rest-after start out x.printed out' printed w.same w.fits w.rest tells.lines whole,
    )

    fits_on : printed + r.printed ≤ length start
    fits_on = rw tells.printed after.0

    -- it is all that is left
    ends : played (length start - printed) p t (drop read s) ≡ x → Matches q (step_result (read + r.read) (printed + r.printed) r.bad) t' start out' 0 (played (length start) p₀ t₀ s)
    ends e =
        rw (w.total, e)
        (record {
          session = tells.session;
          words = tells.words;
          read = ap (λ n. read + n) tells.read;
          printed = rw (tells.printed, length-append (take printed out) x.printed, length-take-le printed out (omega (arith, w.same, w.fits)));
          bad = tells.bad;
          lines = rw (sym after.1) (placed_first start out' (printed + length x.printed) (omega (arith, after.0, whole)) after.2);
        })

  -- one more step
  module _ {q : Session} {r : StepResult} {t' out' : List ℕ} (tells : Matches q r t' out out' printed (step_record p t (take (length s - read) (drop read s)))) (whole : length out' ≡ length start) where
    abbrev X : RecordStep
    X = step_record p t (drop read s)

    told : Matches q r t' out out' printed X
    told = rw left_of at tells

    pub reads_on : read + r.read ≤ length s
    reads_on = omega (arith, told.read, step-reads p t (drop read s), length-drop read s, w.within)

    pub puts_on : printed + r.printed ≤ length start
    puts_on = fits_on told whole

    module _ (room : record_room ≤ length start - printed) where
      -- it works a record
      pub goes_on : 0 < r.read → Went p₀ t₀ s start q t' out' (read + r.read) (printed + r.printed)
      goes_on h =
          let left : length start - (printed + length X.printed) ≡ length start - printed - length X.printed = omega arith in
          let a = after told whole in
          let l = reads_on in
          rw (told.session, told.words, told.read, told.printed)
          (record {
            same = whole;
            within = rw (sym told.read) l;
            fits = a.0;
            rest = a.2;
            total =
                w.total
                ∙ ap (joined (so p t read (take printed out))) (play-step (length start - printed) p t (drop read s) room (rw (sym told.read) h))
                ∙ regroup p t (take printed out) read X _
                ∙ rw (a.1, drop-drop X.read read s, left);
          })

      -- it works none: that was the last
      pub stops : r.read ≡ 0 → Matches q (step_result (read + r.read) (printed + r.printed) r.bad) t' start out' 0 (played (length start) p₀ t₀ s)
      stops e = ends told whole (play-stop (length start - printed) p t (drop read s) room (sym told.read ∙ e))

  -- the rest of the part, worked in the rest of the buffer
  module _ {q : Session} {r : StepResult} {t' m : List ℕ} (tells : Matches q r t' (take (length out - printed) (drop printed out)) m 0 (played (length (take (length out - printed) (drop printed out))) p t (take (length s - read) (drop read s)))) (whole : length m ≡ length (take (length out - printed) (drop printed out))) where
    abbrev left : List ℕ
    left = put_mid printed (length out - printed) out m

    room_left : length (take (length out - printed) (drop printed out)) ≡ length start - printed
    room_left =
        let l = length-drop printed out in
        rw (take_all (length out - printed) (drop printed out) (omega (arith, l))) (l ∙ rw w.same)

    told-rest : Matches q r t' out left printed (played (length start - printed) p t (drop read s))
    told-rest = tells-rest (rw (left_of, room_left) at tells)

    whole_left : length left ≡ length start
    whole_left = same_len_mid printed (length out - printed) out m whole ∙ w.same

    pub reads-rest : read + r.read ≤ length s
    reads-rest = omega (arith, told-rest.read, played-reads (length start - printed) p t (drop read s), length-drop read s, w.within)

    pub puts-rest : printed + r.printed ≤ length start
    puts-rest = fits_on told-rest whole_left

    pub ends-rest : Matches q (step_result (read + r.read) (printed + r.printed) r.bad) t' start left 0 (played (length start) p₀ t₀ s)
    ends-rest = ends told-rest whole_left refl

  -- there is no room for the lines of one more
  pub fills : length start - printed < record_room → Matches p (step_result read printed false) t start out 0 (played (length start) p₀ t₀ s)
  fills h =
      rw (w.total, play-full (length start - printed) p t (drop read s) h)
      (record {
        session = refl;
        words = refl;
        read = sym (add-zero read);
        printed = rw (append-nil (take printed out)) (sym (length-take-le printed out (omega (arith, w.same, w.fits))));
        bad = refl;
        lines = rw (append-nil (take printed out)) (placed_first start out printed (omega (arith, w.same, w.fits)) w.rest);
      })
