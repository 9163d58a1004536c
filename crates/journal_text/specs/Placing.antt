-- Lines put into a lent buffer.
use Rattle.std.specs.Prelude.{ℕ, ◌+◌, cond, List, ◌++◌, leb, length, take, drop}

-- a buffer with a line at place k, its other bytes as they were
unfoldable pub placed : ℕ → List ℕ → List ℕ → List ℕ
placed k line out = take k out ++ (line ++ drop (k + length line) out)

-- the bytes that a number of 64 bits in decimal may take: 20 digits, and the byte that ends it
abbrev pub decimal_room : ℕ
decimal_room = 21

-- the bytes that a line may take: any but one of bytes in hex
abbrev pub line_room : ℕ
line_room = 64

-- a line put at place k where there is room for so many bytes; else nothing is
unfoldable pub written : ℕ → ℕ → List ℕ → List ℕ → List ℕ
written room k line out = cond (leb (k + room) (length out)) (placed k line out) out

-- how many bytes of a line are put at place k: all where there is room for so many, else none
unfoldable pub written_count : ℕ → ℕ → List ℕ → List ℕ → ℕ
written_count room k line out = cond (leb (k + room) (length out)) (length line) 0
