-- One advance of a program that reads a journal piece by piece: what it works, what it keeps and what it writes.
use Rattle.std.specs.Prelude.{◌≡◌, ℕ, ◌+◌, ◌-◌, ◌%◌, ◌^◌, min, Bool, true, cond, ◌&&◌, ◌||◌, List, [], leb, eqb, length, take}
use Rattle.journal_text.specs.Placing.{line_room, placed}
use Rattle.journal_line_plain.specs.Plain.{last_line}
use Rattle.journal_session.specs.Steps.{RecordStep, fresh}
use Rattle.journal_run.specs.Journal.{played}
use Rattle.journal_rest.specs.Blocks.{kept}
use Rattle.journal_blocks.specs.declared.Progress.{Progress}
use Rattle.journal_blocks.specs.declared.Advanced.{Advanced}

-- what an advance leaves: how far the journal has come, the table, the block, the bytes to be written, and whether they are the last
pub record Advance : Type 0 where
  pub progress : Progress
  pub table : List ℕ
  pub block : List ℕ
  pub printed : List ℕ
  pub finished : Bool

-- before the first byte: none is held, and bytes are wanted
abbrev pub beginning : Progress
beginning = record { session = fresh; offset = 0; held = 0; wants = true }

-- the bytes held with those read behind them, as far as the block goes
abbrev pub held_with : Progress → List ℕ → ℕ → ℕ
held_with p block got = min (p.held + got) (length block)

-- how far the journal has come once the records x of the first h bytes of the block are worked. An offset is kept in 64 bits.
abbrev pub progressed : Progress → ℕ → RecordStep → Progress
progressed p h x = record { session = x.session; offset = (p.offset + x.read) % 2 ^ 64; held = h - x.read; wants = eqb x.read 0 }

-- no record was worked, and none will be: the journal is bad here, or bytes were wanted and there are no more
abbrev pub is_over : Progress → ℕ → RecordStep → Bool
is_over p got x = eqb x.read 0 && (x.bad || (p.wants && eqb got 0))

-- the last line of a journal that ends so, where the buffer has room for a line
abbrev pub last_in : ℕ → Progress → List ℕ
last_in room p = cond (leb line_room room) (last_line p.held p.offset) []

-- what is left once the records x of the first h bytes of the block are worked
abbrev pub leaving : ℕ → Progress → List ℕ → ℕ → ℕ → RecordStep → Advance
leaving room p block got h x =
    record {
      progress = progressed p h x;
      table = x.table;
      block = kept x.read h block;
      printed = cond (is_over p got x) (last_in room (progressed p h x)) x.printed;
      finished = is_over p got x;
    }

-- one advance, where a buffer of `room` bytes takes the lines: the whole records held are worked as far as there is room for their
-- lines, and what is left of the block moves to its front; where none is worked, more bytes are wanted, or the journal is over
unfoldable pub advance : ℕ → Progress → List ℕ → List ℕ → ℕ → Advance
advance room p t block got =
    leaving room p block got (held_with p block got) (played room p.session t (take (held_with p block got) block))

-- the progress as left, a result, and table, block and buffer `out` as left say all of an advance
pub record Leaves (p : Progress) (r : Advanced) (table block out left : List ℕ) (x : Advance) : Type 0 where
  pub progress : p ≡ x.progress
  pub words : table ≡ x.table
  pub rest : block ≡ x.block
  pub printed : r.printed ≡ length x.printed
  pub lines : left ≡ placed 0 x.printed out
  pub finished : r.finished ≡ x.finished
