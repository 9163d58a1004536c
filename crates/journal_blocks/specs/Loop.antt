-- What the program's loop writes: in each round it reads where bytes are wanted, advances, and writes what that put.
use Rattle.std.specs.Prelude.{◌≡◌, ℕ, zero, suc, ◌-◌, ◌*◌, ◌^◌, ◌<◌, ◌≤◌, min, cond, List, [], ◌++◌, length, take, drop, replicate}
use Rattle.rules.specs.Sizes.{table_words}
use Rattle.journal_text.specs.Placing.{placed}
use Rattle.journal_records.specs.Items.{longest_body}
use Rattle.journal_session.specs.Steps.{record_room}
use Rattle.journal_run.specs.Journal.{output}
use Rattle.journal_blocks.specs.declared.Progress.{Progress}
use Rattle.journal_blocks.specs.Advances.{Advance, beginning, advance}

-- how many bytes a round reads, where `rest` of the journal is not read yet: none unless bytes are wanted; else any number that
-- the system likes, from one on, as far as the block's free part and the rest go
abbrev pub got : ℕ → Progress → List ℕ → List ℕ → ℕ
got k p block rest = cond p.wants (min (min (suc k) (length block - p.held)) (length rest)) 0

-- a round: these bytes stand behind those held, and an advance is made
abbrev pub one_round : ℕ → ℕ → Progress → List ℕ → List ℕ → List ℕ → Advance
one_round room n p t block rest = advance room p t (placed p.held (take n rest) block) n

-- what an advance writes, and then what `next` writes from there on, unless its bytes were the last
abbrev pub followed : (Progress → List ℕ → List ℕ → List ℕ) → Advance → List ℕ
followed next x = x.printed ++ cond x.finished [] (next x.progress x.table x.block)

-- what is written in n rounds; `reads` says for each round how many bytes the system likes to give
unfoldable pub writes_for : ℕ → ℕ → (ℕ → ℕ) → Progress → List ℕ → List ℕ → List ℕ → List ℕ
writes_for zero room reads p t block rest = []
writes_for (suc n) room reads p t block rest =
    followed (λ q u b. writes_for n room reads q u b (drop (got (reads n) p block rest) rest)) (one_round room (got (reads n) p block rest) p t block rest)

-- however reads cut a journal of fewer than 2^64 bytes, what is written is what the journal prints: where the buffer has room
-- for one record's lines and the block for the longest record. Three rounds for each byte and one more are enough.
abbrev pub WritesAll : Type 0
WritesAll =
    (n room : ℕ) (reads : ℕ → ℕ) (block s : List ℕ)
    → record_room ≤ room → longest_body < length block → length s < 2 ^ 64 → 3 * length s < n
    → writes_for n room reads beginning (replicate table_words 0) block s ≡ output s
