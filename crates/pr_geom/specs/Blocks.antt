-- The blocks of 8 by 8 samples of a slice (SMPTE RDD 36, slice and macroblock structure).
use Rattle.std.specs.Prelude.{◌≡◌, ℕ, ◌+◌, ◌*◌, ◌<◌, List, [], ◌∷◌, length, map, slice_index_or}
use Rattle.std.specs.List.{flat_map, Contains}
use Rattle.pw_planes.specs.declared.kinds.Chroma.{Chroma}
use Rattle.pw_planes.specs.declared.kinds.Chroma.TheVariants.{C422, C444}
use Rattle.pr_geom.specs.declared.places.SlicePlace.{SlicePlace}
use Rattle.pr_geom.specs.declared.places.Part.{Part}
use Rattle.pr_geom.specs.declared.places.Part.TheVariants.{Y, Cb, Cr}
use Rattle.pr_geom.specs.Slices.{slice_columns}

-- the width in samples of a macroblock in the plane of a part
abbrev pub macroblock_width : Chroma → Part → ℕ
macroblock_width chroma Y = 16
macroblock_width C422 Cb = 8
macroblock_width C422 Cr = 8
macroblock_width C444 Cb = 16
macroblock_width C444 Cr = 16

-- the corners of luma's blocks in their macroblock: top left, top right, bottom left, bottom right
abbrev pub luma_corners : List (ℕ × ℕ)
luma_corners = (0, 0) ∷ (8, 0) ∷ (0, 8) ∷ (8, 8) ∷ []

-- the corners of 4:2:2 chroma's blocks in their macroblock: top, bottom
abbrev pub narrow_corners : List (ℕ × ℕ)
narrow_corners = (0, 0) ∷ (0, 8) ∷ []

-- the corners of 4:4:4 chroma's blocks in their macroblock: top left, bottom left, top right, bottom right
abbrev pub wide_corners : List (ℕ × ℕ)
wide_corners = (0, 0) ∷ (0, 8) ∷ (8, 0) ∷ (8, 8) ∷ []

-- the corners of the blocks of a part in their macroblock, in order
abbrev pub corners : Chroma → Part → List (ℕ × ℕ)
corners chroma Y = luma_corners
corners C422 Cb = narrow_corners
corners C422 Cr = narrow_corners
corners C444 Cb = wide_corners
corners C444 Cr = wide_corners

-- the corners of the blocks of the macroblock at a row and column, in the plane of the part
unfoldable pub macroblock_blocks : ℕ → List (ℕ × ℕ) → ℕ → ℕ → List (ℕ × ℕ)
macroblock_blocks width corners row column = map (λ corner. (width * column + corner.0, 16 * row + corner.1)) corners

-- the corners of the blocks of a part of a slice, one macroblock after the other from the left
unfoldable pub blocks_of : Chroma → Part → SlicePlace → List (ℕ × ℕ)
blocks_of chroma part slice = flat_map (macroblock_blocks (macroblock_width chroma part) (corners chroma part) slice.row) (slice_columns slice)

-- A list of corners has each block position of a plane of `columns` by `rows` blocks once: each corner is such a
-- position, each position is in the list, and none is in it twice.
pub record EachOnce (places : List (ℕ × ℕ)) (columns rows : ℕ) : Type 0 where
  pub inside : (n : ℕ) → n < length places → (i : ℕ) × (j : ℕ) × (i < columns) × (j < rows) × (slice_index_or places n (0, 0) ≡ (8 * i, 8 * j))
  pub there : (i j : ℕ) → i < columns → j < rows → Contains places (8 * i, 8 * j)
  pub once : (m n : ℕ) → m < length places → n < length places → slice_index_or places m (0, 0) ≡ slice_index_or places n (0, 0) → m ≡ n
