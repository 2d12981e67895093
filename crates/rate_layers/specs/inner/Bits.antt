-- A bit set in memory. Our own definitions.
use Rattle.std.specs.Prelude.{ℕ, ◌/◌, ◌%◌, ◌==◌, Bool, List, map, slice_index_or}
use Rattle.std.specs.Int.{bit_at}
use Rattle.std.specs.List.{range_with_len}

-- Whether a mark is set. A word holds 64 marks, the first in its lowest bit.
abbrev pub is_set : List ℕ → ℕ → Bool
is_set words i = bit_at (slice_index_or words (i / 64) 0) (i % 64) == 1

-- the first marks of these words
unfoldable pub marks_in : List ℕ → ℕ → List Bool
marks_in words count = map (is_set words) (range_with_len 0 count)
