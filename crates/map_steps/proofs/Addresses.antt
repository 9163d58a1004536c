-- Steps 2 to 6 of MAP: the lowest set bit, alignment of virt_end + 1 without a sum that could wrap, and the window's end.
use Prim.Native.Nat.{ℕ, zero, suc, ◌+◌, ◌-◌, ◌*◌, ◌/◌, ◌%◌, ◌^◌, ◌<◌, ◌≤◌}
use mathlib.Core.Path.{◌≡◌, refl, sym, ap, ◌∙◌}
use mathlib.Core.Bool.{Bool, true, false, not, ◌&&◌, ◌||◌}
use mathlib.Core.Logic.{⊎_elim}
use native.Mathlib.Omega.{arith}
use native.Mathlib.Nat.{pow-suc, mod-lt, mod_self, mod-eq_of_lt, mod-add-mod, eq-or-lt_of_le, one-mul}
use lib.Count.{count_trailing_zeros, under}
use lib.Dec.{leb, ltb, eqb}
use lib.Pow.{shl_exact}
use borrow.Author.Tests.{ltb-false, eq-eqb, ne_eqb, le-ltb, le-leb, lt-leb}
use Rattle.laws.proofs.Tests.{or_left, or_right, or-none, not-both, not-leb}
use Rattle.rules.specs.Sizes.{top_address}
use Rattle.rules.specs.declared.Mapping.{Mapping}
use Rattle.rules.specs.Handlers.{status_of, outside, granularity, aligned, form_chain, form_steps}
use Rattle.map_steps.specs.declared.limits.Limits.{Limits}
use Rattle.map_steps.specs.Forms.{limits_of}

pub trailing_lt : (k n : ℕ) → 0 < n → n < 2 ^ k → count_trailing_zeros k n < k
unfolding count_trailing_zeros
trailing_lt zero n h l = absurd (omega arith)
trailing_lt (suc k) n h l = go (n % 2) refl (λ a b. trailing_lt k (n / 2) a b)
  where
    go : (r : ℕ) → n % 2 ≡ r → (0 < n / 2 → n / 2 < 2 ^ k → count_trailing_zeros k (n / 2) < k) → under r (count_trailing_zeros k (n / 2)) < suc k
    go zero e ih = omega (arith, ih (omega arith) (omega (arith, pow-suc 2 k)))
    go (suc r) e ih = omega arith

pub one_shl : (k : ℕ) → k < 64 → 1 * 2 ^ k % 2 ^ 64 ≡ 2 ^ k
one_shl k h = shl_exact 1 k 64 (omega arith) (omega arith) ∙ one-mul (2 ^ k)

pub power-above : (k : ℕ) → 0 < 2 ^ k
power-above zero = omega arith
power-above (suc k) = omega (arith, pow-suc 2 k, power-above k)

pub next-aligned : (e g : ℕ) → 0 < g → eqb (e % g) (g - 1) ≡ eqb ((e + 1) % g) 0
next-aligned e g h =
    let l : e % g < g = mod-lt e h in
    let m : e % g ≤ g - 1 = omega arith in
    ⊎_elim
    (λ q.
    let f : e % g + 1 ≡ g = omega arith in
    eq-eqb (e % g) (g - 1) q ∙ sym (eq-eqb ((e + 1) % g) 0 (sym (mod-add-mod e g 1) ∙ ap (λ (x : ℕ). x % g) f ∙ mod_self g)))
    (λ q.
    let n : (e + 1) % g ≡ e % g + 1 = sym (mod-add-mod e g 1) ∙ mod-eq_of_lt (omega arith) in
    ne_eqb (e % g) (g - 1) (λ x. omega arith) ∙ sym (ne_eqb ((e + 1) % g) 0 (λ x. omega arith)))
    (eq-or-lt_of_le m)

-- where no bit is set, only the addresses from the first to the last of all are aligned, and only to the first
pub no-bit : (s p e : ℕ) → s < 2 ^ 64 → p < 2 ^ 64 → e < 2 ^ 64 → (eqb s 0 && (eqb p 0 && eqb e top_address)) ≡ (aligned 0 s && (aligned 0 p && aligned 0 (e + 1)))
unfolding granularity count_trailing_zeros
no-bit s p e h j k = rw (← next-aligned e (2 ^ 64) (omega arith), mod-eq_of_lt h, mod-eq_of_lt j, mod-eq_of_lt k)

-- of the numbers from x to y one end lies outside those from a to b where x lies below or y above
ends-out : (a b x y : ℕ) → x ≤ y → (ltb x a || ltb b y) ≡ (outside a b x || outside a b y)
unfolding outside
ends-out a b x y h = go (ltb x a) refl (ltb b y) refl
  where
    go : (t : Bool) → ltb x a ≡ t → (u : Bool) → ltb b y ≡ u → (t || u) ≡ ((ltb x a || ltb b x) || (ltb y a || ltb b y))
    go true e u f = sym (or_left _ _ (or_left _ _ e))
    go false e true f = sym (or_right (ltb x a || ltb b x) _ (or_right (ltb y a) _ f))
    go false e false f =
        let low : a ≤ x = ltb-false x a e in
        let high : y ≤ b = ltb-false b y f in
        sym (or-none _ _ (or-none _ _ e (le-ltb b x (omega arith))) (or-none _ _ (le-ltb y a (omega arith)) f))

-- and the same of a record's physical addresses, by the test of its window
window-out : (first last p a b : ℕ) → a ≤ b → not (leb a b && (leb first p && leb (p + b - a) last)) ≡ (outside first last p || outside first last (p + b - a))
window-out first last p a b h = rw (le-leb a b h, not-both (leb first p) (leb (p + b - a) last), not-leb first p, not-leb (p + b - a) last) (ends-out first last p (p + b - a) (omega arith))

-- of a range that is not empty the tests of the code are those of steps 2 to 6
pub form-tests : (l : Limits) (r : Mapping) (a w : Bool) → r.start < r.end → a ≡ (aligned l.mask r.start && (aligned l.mask r.phys && aligned l.mask (r.end + 1)))
    → w ≡ (leb r.start r.end && (leb l.first r.phys && leb (r.phys + r.end - r.start) l.last))
    → status_of (form_chain (ltb 3 r.flags) false (not a) (ltb r.start l.input.start || ltb l.input.end r.end) (not w)) ≡ status_of (form_steps (limits_of l) r)
unfolding form_steps
form-tests l r a w h ea ew =
    rw (ea, ew, lt-leb r.end r.start h, ends-out l.input.start l.input.end r.start r.end (omega arith), window-out l.first l.last r.phys r.start r.end (omega arith), not-both (aligned l.mask r.start) (aligned l.mask r.phys && aligned l.mask (r.end + 1)), not-both (aligned l.mask r.phys) (aligned l.mask (r.end + 1)))
