-- Numbers as text, and the end of a line, in ASCII.
use Rattle.std.specs.Prelude.{ℕ, zero, suc, ◌+◌, ◌/◌, ◌%◌, cond, List, [], ◌∷◌, ◌++◌, ltb}

-- what ends a line
abbrev pub newline : ℕ
newline = 10

-- a digit below 16: 0 to 9, then a to f ("lowercase hex digits")
abbrev pub digit : ℕ → ℕ
digit d = cond (ltb d 10) (48 + d) (87 + d)

-- a number in decimal, of at most n + 1 digits, with no zero in front
abbrev pub decimal_up_to : ℕ → ℕ → List ℕ
decimal_up_to zero x = digit (x % 10) ∷ []
decimal_up_to (suc n) x = cond (ltb x 10) (digit x ∷ []) (decimal_up_to n (x / 10) ++ (digit (x % 10) ∷ []))

-- a number in decimal: it has at most as many digits as it is large, and one where it is 0
unfoldable pub decimal : ℕ → List ℕ
decimal x = decimal_up_to x x

-- the k lowest hex digits of a number, the highest first
abbrev pub hex_digits : ℕ → ℕ → List ℕ
hex_digits zero x = []
hex_digits (suc k) x = hex_digits k (x / 16) ++ (digit (x % 16) ∷ [])

-- "16 lowercase hex digits"
unfoldable pub address : ℕ → List ℕ
address x = hex_digits 16 x

-- bytes in hex, two digits each, in order
abbrev pub hex_bytes : List ℕ → List ℕ
hex_bytes [] = []
hex_bytes (b ∷ bs) = digit (b / 16) ∷ digit (b % 16) ∷ hex_bytes bs

-- a line of bytes in hex
unfoldable pub hex_line : List ℕ → List ℕ
hex_line bs = hex_bytes bs ++ (newline ∷ [])
