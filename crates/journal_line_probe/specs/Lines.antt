-- "Journal and its output": what the lines of a request with properties say. Every line ends in a newline.
use Rattle.std.specs.Prelude.{ℕ, ◌+◌, ◌*◌, cond, List, [], ◌++◌, eqb, take}
use Rattle.rules.specs.declared.Answer.{Answer}
use Rattle.rules.specs.Sizes.{properties_size}
use Rattle.rules.specs.Answers.{number}
use Rattle.journal_text.specs.Text.{hex_line}
use Rattle.journal_text.specs.Placing.{line_room}
use Rattle.journal_line_call.specs.Lines.{request_line}

-- the bytes of the properties' line: two digits for each of theirs, and the newline
abbrev pub properties_line : ℕ
properties_line = 2 * properties_size + 1

-- the bytes that the lines of such a request may take
abbrev pub probe_room : ℕ
probe_room = line_room + properties_line

-- "0x14 [..], printing after an `R 0` line the 128 in hex": of the answer and the writable part as left
unfoldable pub probe_lines : Answer → List ℕ → List ℕ
probe_lines a writable = request_line a writable ++ cond (eqb (number a) 0) (hex_line (take properties_size writable)) []
