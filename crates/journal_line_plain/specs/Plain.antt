-- "Journal and its output": the letters and marks, and the lines of a number, of a bad journal and of the end. Every line ends
-- in a newline.
use Rattle.std.specs.Prelude.{ℕ, cond, List, [], ◌∷◌, ◌++◌, eqb}
use Rattle.rules.specs.declared.Answer.{Answer}
use Rattle.rules.specs.Answers.{number}
use Rattle.journal_text.specs.Text.{newline, decimal}

-- the letters and marks of the lines
abbrev pub space : ℕ
space = 32

abbrev pub dash : ℕ
dash = 45

abbrev pub letter_a : ℕ
letter_a = 65

abbrev pub letter_e : ℕ
letter_e = 69

abbrev pub letter_f : ℕ
letter_f = 70

abbrev pub letter_r : ℕ
letter_r = 82

abbrev pub letter_s : ℕ
letter_s = 83

abbrev pub letter_z : ℕ
letter_z = 90

-- "`S`, `Z` (reset) and `A` give the number": a letter and a number
unfoldable pub number_line : ℕ → Answer → List ℕ
number_line letter a = letter ∷ space ∷ decimal (number a) ++ (newline ∷ [])

-- "prints `bad journal at N` (N the kind byte's offset, decimal)"
unfoldable pub bad_line : ℕ → List ℕ
bad_line at =
    98 ∷ 97 ∷ 100 ∷ space ∷ 106 ∷ 111 ∷ 117 ∷ 114 ∷ 110 ∷ 97 ∷ 108 ∷ space ∷ 97 ∷ 116 ∷ space ∷ decimal at ++ (newline ∷ [])

-- "A journal read to its end, an empty one too, prints `E` last."
abbrev pub end_line : List ℕ
end_line = letter_e ∷ newline ∷ []

-- the last line of a journal that ends with n bytes, at offset `at`, which are no whole record
abbrev pub last_line : ℕ → ℕ → List ℕ
last_line n at = cond (eqb n 0) end_line (bad_line at)
