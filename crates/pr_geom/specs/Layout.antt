-- The slices and blocks of a layout (SMPTE RDD 36, picture structure).
use Rattle.std.specs.Prelude.{◌≡◌, ℕ, ◌+◌, ◌*◌, ◌/◌, ◌<◌, ◌≤◌, List, None, length}
use Rattle.std.specs.List.{flat_map, range_with_len, Contains}
use Rattle.pw_planes.specs.declared.kinds.Interlace.{Interlace}
use Rattle.pw_planes.specs.declared.kinds.Chroma.{Chroma}
use Rattle.pr_geom.specs.declared.places.TheConstants.{MAX_SLICES}
use Rattle.pr_geom.specs.declared.places.SlicePlace.{SlicePlace}
use Rattle.pr_geom.specs.declared.places.Part.{Part}
use Rattle.pr_geom.specs.declared.layout.Layout.{Layout}
use Rattle.pr_geom.specs.Slices.{pictures_of, macroblocks, picture_slices, row_slices, slice_columns}
use Rattle.pr_geom.specs.Faults.{first_fault}
use Rattle.pr_geom.specs.Blocks.{macroblock_width, blocks_of, EachOnce}

-- the height of each picture of the frame
abbrev pub picture_height_of : Layout → ℕ
picture_height_of l = l.height / pictures_of l.interlace

-- the number of columns of macroblocks of each picture
abbrev pub columns_of : Layout → ℕ
columns_of l = macroblocks l.width

-- the number of rows of macroblocks of each picture
abbrev pub rows_of : Layout → ℕ
rows_of l = macroblocks (picture_height_of l)

-- the slices of one picture, in order
abbrev pub slices_of : Layout → List SlicePlace
slices_of l = picture_slices (columns_of l) (rows_of l) l.log2

-- a slice of the layout
abbrev pub IsSlice : Layout → SlicePlace → Type 0
IsSlice l slice = Contains (slices_of l) slice

-- a slice has from 1 to 8 macroblocks, all in the picture
pub record IsInside (l : Layout) (slice : SlicePlace) : Type 0 where
  pub some : 0 < slice.width
  pub size : slice.width ≤ 8
  pub columns : slice.column + slice.width ≤ columns_of l
  pub row : slice.row < rows_of l

-- what a layout was made of
pub record IsLayoutOf (l : Layout) (w h n : ℕ) (mode : Interlace) (format : Chroma) : Type 0 where
  pub width : l.width ≡ w
  pub height : l.height ≡ h
  pub log2 : l.log2 ≡ n
  pub interlace : l.interlace ≡ mode
  pub chroma : l.chroma ≡ format

-- the law that no cause of refusal holds of a layout's own size
abbrev pub HasNoFault : Layout → Type 0
HasNoFault l = first_fault l.width l.height l.log2 l.interlace ≡ None

-- the law that the slices of each row, from left to right, have the columns 0, 1, 2 .. up to the last, each once
abbrev pub SlicesCoverRows : Layout → Type 0
SlicesCoverRows l = (row : ℕ) → flat_map slice_columns (row_slices (columns_of l) l.log2 row) ≡ range_with_len 0 (columns_of l)

-- the law that the blocks of a part of all slices of a picture are each block position once
abbrev pub BlocksAreOnce : Layout → Part → Type 0
BlocksAreOnce l part = EachOnce (flat_map (blocks_of l.chroma part) (slices_of l)) (columns_of l * (macroblock_width l.chroma part / 8)) (rows_of l * 2)

-- the law that all pictures of a frame have at most 2 · MAX_SLICES slices
abbrev pub FrameSlicesAreFew : Layout → Type 0
FrameSlicesAreFew l = pictures_of l.interlace * length (slices_of l) ≤ 2 * MAX_SLICES
