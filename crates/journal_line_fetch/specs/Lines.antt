-- "Journal and its output": what the lines of a fetch say. Every line ends in a newline.
use Rattle.std.specs.Prelude.{ℕ, zero, suc, ◌+◌, ◌*◌, Bool, cond, ◌&&◌, List, [], ◌∷◌, ◌++◌, eqb, leb, length, take, drop}
use Rattle.rules.specs.declared.Answer.{Answer}
use Rattle.rules.specs.Sizes.{max_faults, fault_size}
use Rattle.rules.specs.Answers.{number, fetched_count}
use Rattle.journal_text.specs.Text.{newline, decimal, hex_line}
use Rattle.journal_text.specs.Placing.{line_room}
use Rattle.journal_line_plain.specs.Plain.{space, letter_f, number_line}

-- the bytes of a record's line: two digits for each of the record's, and the newline
abbrev pub record_line : ℕ
record_line = 2 * fault_size + 1

-- the bytes that a fetch's lines may take: the first line, and one for each record
abbrev pub fetch_room : ℕ
fetch_room = line_room + record_line * max_faults

-- "then a line for each record": the first n records of a buffer
abbrev pub record_lines : ℕ → List ℕ → List ℕ
record_lines zero buffer = []
record_lines (suc n) buffer = hex_line (take fault_size buffer) ++ record_lines n (drop fault_size buffer)

-- "A fetch prints `F 0` and its count, then a line for each record; refused, `F` and the number."
unfoldable pub fetch_lines : Answer → List ℕ → List ℕ
fetch_lines a buffer =
    cond (eqb (number a) 0)
    (letter_f ∷ space ∷ decimal 0 ++ (space ∷ decimal (fetched_count a) ++ (newline ∷ record_lines (fetched_count a) buffer)))
    (number_line letter_f a)

-- a fetch whose records are at most 16, and stand whole in the buffer
unfoldable pub fetch_fits : Answer → List ℕ → Bool
fetch_fits a buffer = leb (fetched_count a) max_faults && leb (fault_size * fetched_count a) (length buffer)
