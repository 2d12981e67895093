-- The matrix that grows by one for each row and each column, in raster order: row p / 8 and column p % 8 at place p. Our own.
use Rattle.std.specs.Prelude.{ℕ, ◌+◌, ◌/◌, ◌%◌, List, map}
use Rattle.std.specs.List.{range_with_len}

abbrev pub steep_weights : List ℕ
steep_weights = map (λ p. 4 + p / 8 + p % 8) (range_with_len 0 64)
