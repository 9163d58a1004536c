-- However reads cut a journal, the program's loop writes what the journal prints.
use Rattle.std.proofs.Common.{◌≡◌, ℕ, zero, suc, ◌+◌, ◌-◌, ◌*◌, ◌^◌, ◌<◌, ◌≤◌, min, Bool, true, false, cond, ◌&&◌, ◌||◌, eqb, List, [], ◌∷◌, ◌++◌, length, take, drop, sym, refl, ap, ◌∙◌, ⊎_elim, append_assoc, append-nil, add-zero, arith, length-append, length-drop, take-append-drop, length-take-le, ne_eqb, eqb-true}
use borrow.Author.Tests.{eqb-false, not-false}
use Rattle.laws.proofs.Tests.{true-false, both_left, both_right, or_cases, nor, and-not}
use Rattle.journal_text.specs.Placing.{placed}
use Rattle.journal_line_plain.specs.Plain.{last_line}
use Rattle.journal_records.specs.Items.{longest_body, front}
use Rattle.journal_session.specs.declared.session.Session.{Session}
use Rattle.journal_session.specs.Steps.{record_room, RecordStep, unread, step_of, step_record}
use Rattle.journal_run.specs.Journal.{output_for, output_from, played}
use Rattle.journal_run.proofs.Repeating.{play-stop}
use Rattle.journal_run.proofs.Longer.{is_cut}
use Rattle.journal_run.proofs.Streaming.{step-unread, streams, resumes}
use Rattle.journal_run.proofs.Stopping.{played-reads, played-unread, first-stays, cut-few}
use Rattle.journal_rest.specs.Blocks.{kept}
use Rattle.journal_blocks.specs.declared.Progress.{Progress}
use Rattle.journal_blocks.specs.Advances.{beginning, advance}
use Rattle.journal_blocks.specs.Loop.{got, followed, writes_for, WritesAll}
use Rattle.journal_blocks.proofs.Keeping.{kept-front, kept-length, read_length, read_behind}
use Rattle.journal_blocks.proofs.Outcomes.{worked-some, wants-more, ends}

-- WHERE NO RECORD IS WORKED

module _ (at : ℕ) (p : Session) (t s : List ℕ) (h : (step_record p t s).read ≡ 0) where
  -- a journal that ends there has its last line
  ends_there : output_from at p t s ≡ last_line (length s) at
  unfolding output_for
  ends_there = rw h

  -- it is cut, and so short, unless it is bad
  few-left : (step_record p t s).bad ≡ false → length s ≤ longest_body
  few-left e = cut-few s (not-false (is_cut (front s)) (sym (step-unread p t s h).cut ∙ e))

no_bytes : (s : List ℕ) → length s ≡ 0 → s ≡ []
no_bytes [] e = refl
no_bytes (b ∷ s) e = absurd (omega arith)

-- where there is no byte, nothing is bad
empty-good : (p : Session) (t s : List ℕ) → length s ≡ 0 → (step_record p t s).bad ≡ false
unfolding step_record step_of front
empty-good p t [] e = refl
empty-good p t (b ∷ s) e = absurd (omega arith)

-- THE READS

-- what is read fits, and is none only where none is wanted or there is none
record Reads (p : Progress) (block rest : List ℕ) (n : ℕ) : Type 0 where
  pub fits : p.held + n ≤ length block
  pub there : n ≤ length rest
  pub none : p.wants ≡ true → n ≡ 0 → length rest ≡ 0
  pub unasked : p.wants ≡ false → n ≡ 0

-- what holds before a round
record Stands (p : Progress) (block rest : List ℕ) : Type 0 where
  pub fits : p.held ≤ length block
  pub small : p.offset + p.held + length rest < 2 ^ 64
  pub few : p.wants ≡ true → p.held ≤ longest_body
  pub long : longest_body < length block

reads-well : (k : ℕ) (p : Progress) (block rest : List ℕ) → Stands p block rest → Reads p block rest (got k p block rest)
reads-well k p block rest w = go p.wants refl
  where
    go : (b : Bool) → p.wants ≡ b → Reads p block rest (got k p block rest)
    go true e =
        rw e
        (let f = w.few e in
        record {
          fits = omega (arith, w.fits);
          there = omega arith;
          none = λ _ z. omega (arith, z, f, w.long);
          unasked = λ u. true-false true refl u;
        })
    go false e =
        rw e
        (record {
          fits = omega (arith, w.fits);
          there = omega arith;
          none = λ u _. true-false false u refl;
          unasked = λ _. refl;
        })

-- THE LOOP

-- rounds that are enough
abbrev rounds_for : Progress → List ℕ → ℕ
rounds_for p rest = 3 * length rest + 2 * p.held + cond p.wants 0 1

module _ (room : ℕ) (reads : ℕ → ℕ) (wide : record_room ≤ room) where
  -- n rounds write what the bytes held and the rest print
  abbrev Writes : ℕ → Type 0
  Writes n =
      (p : Progress) (t block rest : List ℕ) → Stands p block rest → rounds_for p rest < n → writes_for n room reads p t block rest ≡ output_from p.offset p.session t (take p.held block ++ rest)

  module _ (n : ℕ) (again : Writes n) (p : Progress) (t block rest : List ℕ) (w : Stands p block rest) (l : rounds_for p rest < suc n) (k : ℕ) (r : Reads p block rest k) where
    abbrev B : List ℕ
    B = placed p.held (take k rest) block

    abbrev S : List ℕ
    S = take p.held block ++ take k rest

    abbrev H : ℕ
    H = p.held + k

    abbrev X : RecordStep
    X = played room p.session t S

    count : length (take k rest) ≡ k
    count = length-take-le k rest r.there

    room_for : p.held + length (take k rest) ≤ length block
    room_for = rw count r.fits

    sized : length B ≡ length block
    sized = read_length p.held (take k rest) block room_for

    all : min (p.held + k) (length B) ≡ H
    all = omega (arith, sized, r.fits)

    same : take H B ≡ S
    same = rw count at (read_behind p.held (take k rest) block room_for)

    length-S : length S ≡ H
    length-S = omega (arith, length-append (take p.held block) (take k rest), count, length-take-le p.held block w.fits)

    within : H ≤ length B
    within = omega (arith, sized, r.fits)

    small : p.offset + H < 2 ^ 64
    small = omega (arith, w.small, r.there)

    left : length (drop k rest) ≡ length rest - k
    left = length-drop k rest

    -- the bytes held with those read, and then the rest, are what was held and not yet read
    joins : take p.held block ++ rest ≡ S ++ drop k rest
    joins = ap (λ z. take p.held block ++ z) (sym (take-append-drop k rest)) ∙ sym (append_assoc (take p.held block) (take k rest) (drop k rest))

    -- what this round writes, and then the others, is right
    abbrev Right : Type 0
    Right = followed (λ q u b. writes_for n room reads q u b (drop k rest)) (advance room p t B k) ≡ output_from p.offset p.session t (S ++ drop k rest)

    -- records are worked
    goes_on : 0 < X.read → Right
    goes_on a =
        let few : X.read ≤ H = omega (arith, played-reads room p.session t S, length-S) in
        let f : take (H - X.read) (kept X.read H B) ≡ drop X.read S = kept-front X.read H B few within ∙ ap (drop X.read) same in
        let m : length (kept X.read H B) ≡ length block = kept-length X.read H B few within ∙ sized in
        let q : Progress = record { session = X.session; offset = p.offset + X.read; held = H - X.read; wants = false } in
        let stands : Stands q (kept X.read H B) (drop k rest) =
        record { fits = omega (arith, m, r.fits); small = omega (arith, few, left, r.there, w.small); few = λ u. true-false false u refl; long = omega (arith, m, w.long) } in
        let next = again q X.table (kept X.read H B) (drop k rest) stands (omega (arith, left, few, a, l, r.there)) in
        rw (worked-some room p t B S k H all same within small a few)
        (ap (λ z. X.printed ++ z) (next ∙ ap (λ z. output_from (p.offset + X.read) X.session X.table (z ++ drop k rest)) f)
        ∙ sym (resumes room p.offset p.session t S (drop k rest)))

    -- none is worked
    module _ (b : Bool) (e : X ≡ unread p.session t b) where
      stays : (step_record p.session t S).read ≡ 0
      stays = first-stays room p.session t S wide (ap (λ x. x.read) e)

      told : (step_record p.session t S).bad ≡ b
      told = ap (λ x. x.bad) (sym (play-stop room p.session t S wide stays) ∙ e)

      -- rounds are left for what is then read
      fewer : (b || (p.wants && eqb k 0)) ≡ false → 3 * length (drop k rest) + 2 * H < n
      fewer o = go p.wants refl
        where
          go : (c : Bool) → p.wants ≡ c → 3 * length (drop k rest) + 2 * H < n
          go true u =
              let z = eqb-false k 0 (and-not p.wants (eqb k 0) (nor b (p.wants && eqb k 0) o).1 u) in
              omega (arith, left, r.there, l, z)
          go false u = let m = rw u at l in omega (arith, left, r.there, r.unasked u, m)

      more : (b || (p.wants && eqb k 0)) ≡ false → Right
      more o =
          let q : Progress = record { session = p.session; offset = p.offset; held = H; wants = true } in
          let short : H ≤ longest_body = rw length-S at (few-left p.offset p.session t S stays (told ∙ (nor b (p.wants && eqb k 0) o).0)) in
          let stands : Stands q B (drop k rest) = record { fits = within; small = omega (arith, left, r.there, w.small); few = λ _. short; long = omega (arith, sized, w.long) } in
          rw (wants-more room p t B S k H all same within small b e o)
          (again q t B (drop k rest) stands (omega (arith, fewer o)) ∙ ap (λ z. output_from p.offset p.session t (z ++ drop k rest)) same)

      -- the journal is bad
      bad-there : b ≡ true → output_from p.offset p.session t (S ++ drop k rest) ≡ last_line H p.offset
      bad-there u =
          let some : H ≡ 0 → ⊥ = λ z. true-false (step_record p.session t S).bad (told ∙ u) (empty-good p.session t S (length-S ∙ z)) in
          streams room p.offset p.session t S (drop k rest) ∙ rw (e, u, ne_eqb H 0 some, add-zero)

      -- or it has ended
      ended : (p.wants && eqb k 0) ≡ true → output_from p.offset p.session t (S ++ drop k rest) ≡ last_line H p.offset
      ended u =
          let z = r.none (both_left p.wants (eqb k 0) u) (eqb-true k 0 (both_right p.wants (eqb k 0) u)) in
          let none : drop k rest ≡ [] = no_bytes (drop k rest) (omega (arith, left, z)) in
          rw (none, append-nil S) (ends_there p.offset p.session t S stays ∙ ap (λ i. last_line i p.offset) length-S)

      over : (b || (p.wants && eqb k 0)) ≡ true → Right
      over o =
          let x = ends room p t B S k H all same within small b e (omega (arith, wide)) o in
          rw (x.0, x.1) (append-nil (last_line H p.offset) ∙ sym (⊎_elim bad-there ended (or_cases b (p.wants && eqb k 0) o)))

    one-round : Right
    one-round = with_status (eqb X.read 0) refl
      where
        none : (c : Bool) → (X.bad || (p.wants && eqb k 0)) ≡ c → X.read ≡ 0 → Right
        none true o z = over X.bad (played-unread room p.session t S z) o
        none false o z = more X.bad (played-unread room p.session t S z) o

        with_status : (c : Bool) → eqb X.read 0 ≡ c → Right
        with_status true z = none (X.bad || (p.wants && eqb k 0)) refl (eqb-true X.read 0 z)
        with_status false z = let y = eqb-false X.read 0 z in goes_on (omega (arith, y))

  writes-on : (n : ℕ) → Writes n
  unfolding writes_for
  writes-on zero p t block rest w l = absurd (omega arith)
  writes-on (suc n) p t block rest w l =
      let k = got (reads n) p block rest in
      let r = reads-well (reads n) p block rest w in
      one-round n (writes-on n) p t block rest w l k r ∙ ap (output_from p.offset p.session t) (sym (joins n (writes-on n) p t block rest w l k r))

-- the claim of specs/Loop.antt
pub writes-all : WritesAll
writes-all n room reads block s wide long small enough =
    writes-on room reads wide n beginning _ block s (record { fits = omega arith; small = omega (arith, small); few = λ _. omega arith; long = long }) (omega (arith, enough))
