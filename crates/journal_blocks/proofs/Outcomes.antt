-- The three outcomes of an advance: records are worked, more bytes are wanted, or the journal is over.
use Rattle.std.proofs.Common.{◌≡◌, ℕ, ◌+◌, ◌-◌, ◌%◌, ◌^◌, ◌<◌, ◌≤◌, Bool, true, false, ◌&&◌, ◌||◌, eqb, List, [], length, take, refl, ◌∙◌, add-zero, mod-eq_of_lt, arith, ne_eqb, le-leb}
use Rattle.journal_text.specs.Placing.{line_room}
use Rattle.journal_line_plain.specs.Plain.{last_line}
use Rattle.journal_session.specs.Steps.{RecordStep, unread}
use Rattle.journal_run.specs.Journal.{played}
use Rattle.journal_rest.specs.Blocks.{kept}
use Rattle.journal_blocks.specs.declared.Progress.{Progress}
use Rattle.journal_blocks.specs.Advances.{held_with, leaving, advance}
use Rattle.journal_blocks.proofs.Keeping.{kept-still}

module _ (room : ℕ) (p : Progress) (t block s : List ℕ) (got h : ℕ) (all : held_with p block got ≡ h) (same : take h block ≡ s) (fits : h ≤ length block) (small : p.offset + h < 2 ^ 64) where
  abbrev X : RecordStep
  X = played room p.session t s

  advances-as : advance room p t block got ≡ leaving room p block got h X
  unfolding advance
  advances-as = rw (all, same)

  offset-as : (n : ℕ) → n ≤ h → (p.offset + n) % 2 ^ 64 ≡ p.offset + n
  offset-as n l = mod-eq_of_lt (omega (arith, l, small))

  pub worked-some : 0 < X.read → X.read ≤ h → advance room p t block got ≡ record {
    progress = record { session = X.session; offset = p.offset + X.read; held = h - X.read; wants = false };
    table = X.table;
    block = kept X.read h block;
    printed = X.printed;
    finished = false;
  }
  worked-some a l = advances-as ∙ rw (ne_eqb X.read 0 (λ z. omega (arith, a, z)), offset-as X.read l)

  -- where no record is worked
  module _ (b : Bool) (still : X ≡ unread p.session t b) where
    none_read : (p.offset + 0) % 2 ^ 64 ≡ p.offset
    none_read = offset-as 0 (omega arith) ∙ add-zero p.offset

    none-gone : h - 0 ≡ h
    none-gone = omega arith

    pub wants-more : (b || (p.wants && eqb got 0)) ≡ false → advance room p t block got ≡ record {
      progress = record { session = p.session; offset = p.offset; held = h; wants = true };
      table = t;
      block = block;
      printed = [];
      finished = false;
    }
    wants-more o = advances-as ∙ rw (still, o, none_read, none-gone, kept-still h block fits)

    pub ends : line_room ≤ room → (b || (p.wants && eqb got 0)) ≡ true → ((advance room p t block got).printed ≡ last_line h p.offset) × ((advance room p t block got).finished ≡ true)
    ends l o = rw (advances-as, still, o, le-leb line_room room l, none_read, none-gone) (refl, refl)
