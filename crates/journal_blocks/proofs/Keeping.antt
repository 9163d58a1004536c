-- The bytes of a block that are kept for the next step, and those that are read behind them.
use Rattle.std.proofs.Common.{◌≡◌, ℕ, ◌+◌, ◌-◌, ◌≤◌, List, ◌++◌, length, take, drop, sym, refl, ap, ◌∙◌, arith, length-append, length-drop, take-append-drop, length-take-le, take_at, le-leb}
use lib.Seq.{drop-append-le}
use Rattle.journal_text.specs.Placing.{placed}
use Rattle.journal_text.proofs.Places.{length-placed}
use Rattle.journal_run.proofs.Playing.{lines_after}
use Rattle.journal_rest.specs.Blocks.{kept_count, kept}

-- of the first h bytes, those from place n on
module _ (n h : ℕ) (b : List ℕ) (l : n ≤ h) (k : h ≤ length b) where
  pub kept-count : kept_count n h b ≡ h - n
  unfolding kept_count
  kept-count = rw (le-leb h (length b) k, le-leb n h l)

  left_over : take (h - n) (drop n b) ≡ drop n (take h b)
  left_over =
      let len : length (take h b) ≡ h = length-take-le h b k in
      let e : drop n b ≡ drop n (take h b) ++ drop h b = ap (drop n) (sym (take-append-drop h b)) ∙ drop-append-le n (take h b) (drop h b) (omega (arith, len)) in
      ap (take (h - n)) e ∙ take_at (drop n (take h b)) (drop h b) (h - n) (omega (arith, length-drop n (take h b), len))

  some : length (take (h - n) (drop n b)) ≡ h - n
  some = length-take-le (h - n) (drop n b) (omega (arith, length-drop n b))

  -- they stand at the front
  pub kept-front : take (h - n) (kept n h b) ≡ drop n (take h b)
  unfolding kept
  kept-front = rw kept-count (take_at (take (h - n) (drop n b)) (drop (h - n) b) (h - n) some ∙ left_over)

  pub kept-length : length (kept n h b) ≡ length b
  unfolding kept
  kept-length = rw (kept-count, length-append, some, length-drop) (omega arith)

-- where all are kept, nothing moves
pub kept-still : (h : ℕ) (b : List ℕ) → h ≤ length b → kept 0 h b ≡ b
unfolding kept
kept-still h b k =
    let e : h - 0 ≡ h = omega arith in
    rw (kept-count 0 h b (omega arith) k, e) (take-append-drop h b)

-- bytes read behind the first k
module _ (k : ℕ) (a block : List ℕ) (h : k + length a ≤ length block) where
  pub read_length : length (placed k a block) ≡ length block
  read_length = length-placed k a block h

  pub read_behind : take (k + length a) (placed k a block) ≡ take k block ++ a
  read_behind = lines_after block block a (placed k a block) k refl (omega arith) refl refl read_length
