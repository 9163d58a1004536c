-- Laws of numbers as text.
use Prim.Native.Nat.{ℕ, zero, suc, ◌+◌, ◌-◌, ◌*◌, ◌^◌, ◌/◌, ◌%◌, ◌≤◌, ◌<◌}
use mathlib.Core.Path.{◌≡◌, refl}
use mathlib.Core.List.{List, [], ◌∷◌, ◌++◌}
use native.Mathlib.Nat.{pow-suc}
use native.Mathlib.Omega.{arith}
use lib.ListN.{length, get_or}
use borrow.Author.Tests.{lt-ltb, le-ltb}
use Rattle.journal_text.specs.Text.{newline, digit, decimal_up_to, decimal, hex_digits, hex_line}

-- a number has no more digits than it is large
pub enough : (n m x : ℕ) → x ≤ n → x ≤ m → decimal_up_to n x ≡ decimal_up_to m x
enough zero zero x h k = refl
enough zero (suc m) x h k = let e : x ≡ 0 = omega arith in rw e
enough (suc n) zero x h k = let e : x ≡ 0 = omega arith in rw e
enough (suc n) (suc m) x h k = rw (enough n m (x / 10) (omega arith) (omega arith))

-- a number of one digit
pub decimal-one : (x : ℕ) → x < 10 → decimal x ≡ digit x ∷ []
unfolding decimal
decimal-one zero h = refl
decimal-one (suc n) h = rw (lt-ltb (suc n) 10 h)

-- a number of more digits
pub decimal-more : (x : ℕ) → 10 ≤ x → decimal x ≡ decimal (x / 10) ++ (digit (x % 10) ∷ [])
unfolding decimal
decimal-more zero h = absurd (omega arith)
decimal-more (suc n) h = rw (le-ltb (suc n) 10 h, enough n (suc n / 10) (suc n / 10) (omega arith) (omega arith))

-- a number without its last digit has one digit less
pub tenth : (n i : ℕ) → 10 ≤ n → n < 10 ^ (i + 1) → (1 ≤ i) × (n / 10 < 10 ^ (i - 1 + 1))
tenth n zero h l = absurd (omega arith)
tenth n (suc j) h l =
    let e : suc j - 1 + 1 ≡ suc j = omega arith in
    let f : suc j + 1 ≡ suc (suc j) = omega arith in
    (omega arith, rw e (omega (arith, pow-suc 10 (suc j), rw f at l)))

-- a number of one digit, with its digit in ASCII
pub one-digit : (x : ℕ) → x < 10 → decimal x ≡ (48 + x) ∷ []
one-digit x h = rw (decimal-one x h, lt-ltb x 10 h)

-- the last of some hex digits
pub hex_digits-next : (i n : ℕ) → 1 ≤ i → hex_digits i n ≡ hex_digits (i - 1) (n / 16) ++ (digit (n % 16) ∷ [])
hex_digits-next zero n h = absurd (omega arith)
hex_digits-next (suc j) n h = let e : suc j - 1 ≡ j = omega arith in rw e

-- A LINE OF BYTES IN HEX

-- two digits for each byte, and the newline
pub hex_line-length : (bs : List ℕ) → length (hex_line bs) ≡ 2 * length bs + 1
unfolding hex_line
hex_line-length [] = refl
hex_line-length (b ∷ bs) = omega (arith, hex_line-length bs)

-- the two digits of a byte
pub hex_line-byte : (bs : List ℕ) (i : ℕ) → i < length bs → (get_or (hex_line bs) (2 * i) 0 ≡ digit (get_or bs i 0 / 16)) × (get_or (hex_line bs) (suc (2 * i)) 0 ≡ digit (get_or bs i 0 % 16))
unfolding hex_line
hex_line-byte [] i h = absurd (omega arith)
hex_line-byte (b ∷ bs) zero h = (refl, refl)
hex_line-byte (b ∷ bs) (suc i) h =
    let e : 2 * suc i ≡ suc (suc (2 * i)) = omega arith in
    rw e (hex_line-byte bs i (omega arith))

-- the newline after them
pub hex_line-end : (bs : List ℕ) → get_or (hex_line bs) (2 * length bs) 0 ≡ newline
unfolding hex_line
hex_line-end [] = refl
hex_line-end (b ∷ bs) =
    let e : 2 * length (b ∷ bs) ≡ suc (suc (2 * length bs)) = omega arith in
    rw e (hex_line-end bs)
