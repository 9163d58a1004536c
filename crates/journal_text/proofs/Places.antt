-- Laws of lines put into a buffer.
use Prim.Native.Nat.{ℕ, suc, ◌+◌, ◌-◌, ◌≤◌, ◌<◌}
use mathlib.Core.Path.{◌≡◌, refl, ◌∙◌}
use mathlib.Core.Bool.{Bool, true, false, cond}
use mathlib.Core.List.{List, [], ◌∷◌, ◌++◌, append_assoc}
use native.Mathlib.Nat.{add-zero}
use native.Mathlib.Numerals.{add-one}
use native.Mathlib.Omega.{arith}
use lib.Dec.{leb}
use borrow.Author.Tests.{le-leb, leb-true}
use lib.ListN.{length, take, drop, set, take-append-drop, length-append}
use lib.Seq.{paste, length-paste, take-paste, drop-paste, take-length, drop-drop, drop-cons, lt-length-set, get_or-set_same, drop-set-lt}
use Rattle.journal_text.specs.Placing.{placed, written, written_count}

-- what starts at a byte that is set
pub drop-set : {A : Type 0} (l : List A) (i : ℕ) (v : A) → i < length l → drop i (set l i v) ≡ v ∷ drop (i + 1) l
drop-set l i v h =
    rw (add-one, drop-cons (set l i v) i v (lt-length-set l i v h), get_or-set_same l i v v h, drop-set-lt (suc i) l i v (omega arith))

-- a line that is put whole: what stands before it, the line, and what stands after it
pub placed-parts : (k : ℕ) (a out : List ℕ) → placed k a out ≡ take k out ++ (a ++ drop (k + length a) out)
unfolding placed
placed-parts k a out = refl

-- nothing put changes nothing
pub placed-none : (k : ℕ) (out : List ℕ) → placed k [] out ≡ out
placed-none k out = rw (placed-parts, add-zero) (take-append-drop k out)

module _ (k : ℕ) (a out : List ℕ) where
  -- it is a copy of all its bytes
  pub placed-paste : placed k a out ≡ paste out k a (length a)
  placed-paste = rw (placed-parts, take-length, append_assoc)

  module _ (h : k + length a ≤ length out) where
    pub length-placed : length (placed k a out) ≡ length out
    length-placed = rw placed-paste (length-paste out k a (length a) h (omega arith))

    take-placed : take (k + length a) (placed k a out) ≡ take k out ++ a
    take-placed = rw placed-paste (take-paste out k a (length a) (omega arith) (omega arith) ∙ rw take-length)

    drop-placed : drop (k + length a) (placed k a out) ≡ drop (k + length a) out
    drop-placed = rw placed-paste (drop-paste out k a (length a) (omega arith) (omega arith))

    -- two pieces of a line, one put after the other
    pub placed-then : (b : List ℕ) → placed (k + length a) b (placed k a out) ≡ placed k (a ++ b) out
    placed-then b =
        let e : k + length (a ++ b) ≡ (k + length a) + length b = omega (arith, length-append a b) in
        placed-parts (k + length a) b (placed k a out)
        ∙ rw (take-placed, ← drop-drop, drop-placed, drop-drop, placed-parts, e) (simp append_assoc)

-- bytes put at place k of a buffer: it is now new, and they end before place n
abbrev pub Put : ℕ → List ℕ → List ℕ → ℕ → List ℕ → Type 0
Put k line out n new = (n ≡ k + length line) × (new ≡ placed k line out)

-- two pieces of a line, put one after the other
pub put_then : (k : ℕ) (a b out : List ℕ) {n m : ℕ} {x y : List ℕ} → k + length a ≤ length out → Put k a out n x → Put n b x m y → Put k (a ++ b) out m y
put_then k a b out h p q = (simp length-append (omega arith), q.1 ∙ rw (p.0, p.1) (placed-then k a out h b))

-- bytes by another name
pub put-named : (k : ℕ) (a b out : List ℕ) {n : ℕ} {new : List ℕ} → a ≡ b → Put k b out n new → Put k a out n new
put-named k a b out e p = rw e p

-- a function that asks for room gives this where there is the room
pub put_whole : (room k : ℕ) (line out : List ℕ) {n : ℕ} {new : List ℕ} → leb (k + room) (length out) ≡ true → Put k line out n new → (n - k ≡ written_count room k line out) × (new ≡ written room k line out)
unfolding written written_count
put_whole room k line out h p = rw h (omega arith, p.1)

-- and this where there is not
pub put-none : (room k : ℕ) (line out : List ℕ) → leb (k + room) (length out) ≡ false → (0 ≡ written_count room k line out) × (out ≡ written room k line out)
unfolding written written_count
put-none room k line out h = rw h (refl, refl)

-- bytes put where there is the room, and the place after them
abbrev pub Placed : ℕ → ℕ → List ℕ → List ℕ → ℕ → List ℕ → Type 0
Placed room k line out n new = (n ≡ k + written_count room k line out) × (new ≡ written room k line out)

-- no more bytes are put than there are
pub written-few : (room k : ℕ) (line out : List ℕ) → written_count room k line out ≤ length line
unfolding written_count
written-few room k line out = go (leb (k + room) (length out))
  where
    go : (b : Bool) → cond b (length line) 0 ≤ length line
    go true = omega arith
    go false = omega arith

-- the same where there is the room
pub placed-room : (room k : ℕ) (line out : List ℕ) {n : ℕ} {new : List ℕ} → k + room ≤ length out → Placed room k line out n new → Put k line out n new
unfolding written written_count
placed-room room k line out h p = rw (le-leb (k + room) (length out) h) at p

pub room-placed : (room k : ℕ) (line out : List ℕ) {n : ℕ} {new : List ℕ} → leb (k + room) (length out) ≡ true → Put k line out n new → Placed room k line out n new
unfolding written written_count
room-placed room k line out h p = rw h p

-- and where there is not
pub none-placed : (room k : ℕ) (line out : List ℕ) → leb (k + room) (length out) ≡ false → Placed room k line out k out
unfolding written written_count
none-placed room k line out h = rw h (omega arith, refl)

-- a piece put after another, where there is the room for both
pub placed-next : (room k : ℕ) (a b out : List ℕ) {n m : ℕ} {x y : List ℕ} → (k + length a) + room ≤ length out → Put k a out n x → Placed room n b x m y → Put k (a ++ b) out m y
placed-next room k a b out {n} {m} {x} {y} h p q =
    let same : length x ≡ length out = rw p.1 (length-placed k a out (omega arith)) in
    put_then k a b out (omega arith) p (placed-room room n b x (omega (arith, p.0)) q)

-- a line of two pieces, put one after the other by a function that asks for room for the whole
pub put-pieces : (room r s k : ℕ) (line a b out : List ℕ) {n m : ℕ} {x y : List ℕ} → leb (k + room) (length out) ≡ true → r ≤ room → length a + s ≤ room → line ≡ a ++ b
    → Placed r k a out n x → Placed s n b x m y → (m - k ≡ written_count room k line out) × (y ≡ written room k line out)
put-pieces room r s k line a b out h f g e p q =
    put_whole room k line out h
    (put-named k line (a ++ b) out e
    (placed-next s k a b out (omega (arith, leb-true, h)) (placed-room r k a out (omega (arith, leb-true, h)) p) q))

-- a line by another name, put where there is the room
pub written-named : (room k : ℕ) (a b out : List ℕ) {n : ℕ} {new : List ℕ} → a ≡ b
    → (n ≡ written_count room k b out) × (new ≡ written room k b out) → (n ≡ written_count room k a out) × (new ≡ written room k a out)
written-named room k a b out e p = rw e p

-- a line that asks for less room than there is
pub written-within : (less room k : ℕ) (line out : List ℕ) {n : ℕ} {new : List ℕ} → less ≤ room → k + room ≤ length out
    → (n ≡ written_count less k line out) × (new ≡ written less k line out) → (n ≡ written_count room k line out) × (new ≡ written room k line out)
unfolding written written_count
written-within less room k line out l h p = rw (le-leb (k + room) (length out) h) (rw (le-leb (k + less) (length out) (omega arith)) at p)

-- what is given where a test holds
pub put-tested : (b : Bool) (x : ℕ) (y out : List ℕ) {n : ℕ} {new : List ℕ} → b ≡ true → (n ≡ x) × (new ≡ y) → (n ≡ cond b x 0) × (new ≡ cond b y out)
put-tested b x y out e p = rw e p
