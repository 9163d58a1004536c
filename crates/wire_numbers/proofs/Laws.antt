-- Laws of numbers in bytes.
use Prim.Native.Nat.{ℕ, suc, ◌+◌, ◌-◌, ◌*◌, ◌/◌, ◌%◌, ◌^◌, ◌<◌, ◌≤◌}
use mathlib.Core.Path.{◌≡◌}
use mathlib.Core.Bool.{cond, ◌&&◌}
use mathlib.Core.List.{List, ◌++◌}
use native.Mathlib.Nat.{pow-suc, pow-le-pow_right}
use native.Mathlib.Omega.{arith}
use lib.Dec.{leb}
use lib.ListN.{length, get_or, take, set}
use lib.Seq.{drop-cons, take-suc-set, append_snoc}
use borrow.Author.Tests.{le-leb, lt-leb}
use Rattle.laws.specs.Bytes.{le_field, le_bytes}

-- a field with one more byte before it
pub field_next : (bs : List ℕ) (k n i j : ℕ) → i ≡ suc j → i ≤ n → k + n ≤ length bs → 256 * le_field (k + i) (n - i) bs + get_or bs (k + j) 0 ≡ le_field (k + j) (n - j) bs
field_next bs k n i j e h l =
    let a : k + i ≡ suc (k + j) = omega arith in
    let b : n - j ≡ suc (n - i) = omega arith in
    let d : k + j < length bs = omega arith in
    rw (a, b, drop-cons bs (k + j) 0 d) (omega arith)

-- a field of n bytes that are below 256 each is below 256 ^ n: the step from the bytes after the first
pub below_next : (x b n i j : ℕ) → i ≡ suc j → i ≤ n → b < 256 → x < 256 ^ (n - i) → 256 * x + b < 256 ^ (n - j)
below_next x b n i j e h l k =
    let m : n - j ≡ suc (n - i) = omega arith in
    rw m (omega (arith, pow-suc 256 (n - i)))

-- with room for one byte more, eight bytes at most are below 2 ^ 64
pub below-fits : (x n i j : ℕ) → i ≡ suc j → n ≤ 8 → x < 256 ^ (n - i) → 256 * x + 255 < 2 ^ 64
below-fits x n i j e h k = omega (arith, pow-le-pow_right {n = 256} (omega arith) {i = n - i} {j = 7} (omega arith))

-- a field that does not fit: what `field_at` ensures of it
pub no_field : (k n l x : ℕ) → n ≤ 8 → l < k + n → cond (leb n 8 && leb (k + n) l) x 0 ≡ 0
no_field k n l x a b = rw (le-leb n 8 a, lt-leb (k + n) l b)

-- 256 to any power is above 0
pub power-above : (n : ℕ) → 0 < 256 ^ n
power-above n = omega (arith, pow-le-pow_right {n = 256} (omega arith) {i = 0} {j = n} (omega arith))

-- the next byte of a number put down
pub put_next : (bs : List ℕ) (n i x : ℕ) → i < n → i < length bs → take (i + 1) (set bs i (x % 256)) ++ le_bytes (n - (i + 1)) (x / 256) ≡ take i bs ++ le_bytes (n - i) x
put_next bs n i x h l =
    let a : i + 1 ≡ suc i = omega arith in
    let b : n - i ≡ suc (n - (i + 1)) = omega arith in
    rw (b, a, take-suc-set bs i (x % 256) l) (append_snoc (take i bs) (x % 256) (le_bytes (n - suc i) (x / 256)))
