-- "Journal and its output": what the lines of a request and of an access say. Every line ends in a newline.
use Rattle.std.specs.Prelude.{ℕ, cond, List, [], ◌∷◌, ◌++◌, eqb}
use Rattle.rules.specs.declared.Answer.{Answer}
use Rattle.rules.specs.Requests.{status_in}
use Rattle.rules.specs.Answers.{number, used_length, address_of}
use Rattle.journal_text.specs.Text.{newline, decimal, address}
use Rattle.journal_line_plain.specs.Plain.{space, dash, letter_a, letter_r, number_line}

-- "`R` gives number, used length, status; an unhandled request prints `R 3 0 -` (with its number)": of the answer and the
-- writable part as left
unfoldable pub request_line : Answer → List ℕ → List ℕ
request_line a writable =
    letter_r ∷ space ∷ decimal (number a)
    ++ (space ∷ decimal (used_length a)
    ++ (space ∷ cond (eqb (number a) 0) (decimal (status_in writable)) (dash ∷ [])
    ++ (newline ∷ [])))

-- "`A 0` also 16 lowercase hex digits"
unfoldable pub access_line : Answer → List ℕ
access_line a = cond (eqb (number a) 0) (letter_a ∷ space ∷ decimal 0 ++ (space ∷ address (address_of a) ++ (newline ∷ []))) (number_line letter_a a)
