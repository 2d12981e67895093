-- How a picture is cut into slices (SMPTE RDD 36, picture structure).
use Rattle.std.specs.Prelude.{ℕ, zero, suc, ◌+◌, ◌/◌, ◌%◌, ◌^◌, List, [], ◌∷◌, ◌++◌, replicate}
use Rattle.std.specs.List.{flat_map, range_with_len}
use Rattle.pw_planes.specs.declared.kinds.Interlace.{Interlace}
use Rattle.pw_planes.specs.declared.kinds.Interlace.TheVariants.{Progressive, TopFirst, BottomFirst}
use Rattle.pr_geom.specs.declared.places.SlicePlace.{SlicePlace}

-- the number of pictures of a frame: one, or a field of each parity
abbrev pub pictures_of : Interlace → ℕ
pictures_of Progressive = 1
pictures_of TopFirst = 2
pictures_of BottomFirst = 2

-- the number of macroblocks of 16 samples that hold this many samples
abbrev pub macroblocks : ℕ → ℕ
macroblocks samples = (samples + 15) / 16

-- the widths of the slices of a row of macroblocks: as many of the desired width, 2 ^ log2, as fit, and the rest of
-- the row in the same way with half that width
abbrev pub row_widths : ℕ → ℕ → List ℕ
row_widths columns zero = replicate columns 1
row_widths columns (suc log2) = replicate (columns / 2 ^ suc log2) (2 ^ suc log2) ++ row_widths (columns % 2 ^ suc log2) log2

-- slices of these widths side by side, from a column of a row on
abbrev pub side_by_side : ℕ → ℕ → List ℕ → List SlicePlace
side_by_side row column [] = []
side_by_side row column (width ∷ widths) = record { column = column; row = row; width = width } ∷ side_by_side row (column + width) widths

-- the slices of a row of macroblocks
unfoldable pub row_slices : ℕ → ℕ → ℕ → List SlicePlace
row_slices columns log2 row = side_by_side row 0 (row_widths columns log2)

-- the slices of a picture of columns and rows of macroblocks: row by row, from left to right
unfoldable pub picture_slices : ℕ → ℕ → ℕ → List SlicePlace
picture_slices columns rows log2 = flat_map (row_slices columns log2) (range_with_len 0 rows)

-- what stands for a slice where there is none
abbrev pub no_slice : SlicePlace
no_slice = record { column = 0; row = 0; width = 0 }

-- the columns of macroblocks that a slice has
abbrev pub slice_columns : SlicePlace → List ℕ
slice_columns slice = range_with_len slice.column slice.width
