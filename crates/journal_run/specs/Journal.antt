-- What a whole journal prints, and what a part of it prints that is read into a buffer.
use Rattle.std.specs.Prelude.{ℕ, zero, suc, ◌+◌, ◌-◌, ◌≡◌, false, cond, List, [], ◌++◌, ltb, eqb, length, drop, replicate}
use Rattle.rules.specs.Sizes.{table_words}
use Rattle.journal_line_plain.specs.Plain.{bad_line, end_line}
use Rattle.journal_session.specs.declared.session.Session.{Session}
use Rattle.journal_session.specs.Steps.{record_room, RecordStep, step_record, fresh, unread}

-- what the rest s of a journal prints, from offset `at` on: "prints `bad journal at N` (N the kind byte's offset, decimal) and
-- stops. A journal read to its end, an empty one too, prints `E` last." Each record has a byte at least, so more than
-- length s steps are enough.
unfoldable pub output_for : ℕ → ℕ → Session → List ℕ → List ℕ → List ℕ
output_for zero at p t s = []
output_for (suc n) at p t s =
    cond (eqb (length s) 0) end_line
    (cond (eqb (step_record p t s).read 0) (bad_line at)
    ((step_record p t s).printed ++ output_for n (at + (step_record p t s).read) (step_record p t s).session (step_record p t s).table (drop (step_record p t s).read s)))

abbrev pub output_from : ℕ → Session → List ℕ → List ℕ → List ℕ
output_from at p t s = output_for (suc (length s)) at p t s

-- what a journal prints: before its first record nothing is named, and the table is zero
abbrev pub output : List ℕ → List ℕ
output s = output_from 0 fresh (replicate table_words 0) s

-- the first record's step, then what follows it
abbrev pub joined : RecordStep → RecordStep → RecordStep
joined x y = record { session = y.session; table = y.table; read = x.read + y.read; printed = x.printed ++ y.printed; bad = y.bad }

-- the records of s worked one after another, at most n of them, while there is room for the lines of one more
unfoldable pub played_for : ℕ → ℕ → Session → List ℕ → List ℕ → RecordStep
played_for zero room p t s = unread p t false
played_for (suc n) room p t s =
    cond (ltb room record_room) (unread p t false)
    (cond (eqb (step_record p t s).read 0) (step_record p t s)
    (joined (step_record p t s)
    (played_for n (room - length (step_record p t s).printed) (step_record p t s).session (step_record p t s).table (drop (step_record p t s).read s))))

-- the records of s worked while they are whole and there is room
abbrev pub played : ℕ → Session → List ℕ → List ℕ → RecordStep
played room p t s = played_for (suc (length s)) room p t s

-- what a journal prints whose first part s was worked so far: the part's lines, then those of what is left
abbrev pub continued : ℕ → RecordStep → List ℕ → List ℕ → List ℕ
continued at x s rest =
    x.printed ++ cond x.bad (bad_line (at + x.read)) (output_from (at + x.read) x.session x.table (drop x.read s ++ rest))

-- a journal may be cut anywhere: a part worked as far as it goes, in whatever room, and then the rest, print what the journal prints
abbrev pub Streams : Type 0
Streams = (room at : ℕ) (p : Session) (t s rest : List ℕ) → output_from at p t (s ++ rest) ≡ continued at (played room p t s) s rest
