-- A block of a journal, as a program reads it.
use Rattle.std.specs.Prelude.{ℕ, ◌-◌, cond, ◌&&◌, List, ◌++◌, leb, length, take, drop}

-- how many of the first `held` bytes stand from place `from` on
unfoldable pub kept_count : ℕ → ℕ → List ℕ → ℕ
kept_count from held block = cond (leb held (length block) && leb from held) (held - from) 0

-- the bytes from place `from` to `held` moved to the front; the other places as they were
unfoldable pub kept : ℕ → ℕ → List ℕ → List ℕ
kept from held block =
    take (kept_count from held block) (drop from block) ++ drop (kept_count from held block) block
