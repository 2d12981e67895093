-- The pictures and slices that a frame header says (SMPTE RDD 36, picture, slice and component).
use Rattle.std.specs.Prelude.{ℕ, ◌*◌, ◌/◌, Bool, true, false, List, length}
use Rattle.pw_planes.specs.declared.kinds.AlphaKind.{AlphaKind}
use Rattle.pw_planes.specs.declared.kinds.AlphaKind.TheVariants.{Absent, Eight, Sixteen}
use Rattle.pw_planes.specs.declared.kinds.Interlace.{Interlace}
use Rattle.pw_planes.specs.declared.kinds.Interlace.TheVariants.{Progressive, TopFirst, BottomFirst}
use Rattle.pr_geom.specs.declared.places.SlicePlace.{SlicePlace}
use Rattle.pr_geom.specs.declared.places.Part.{Part}
use Rattle.pr_geom.specs.Slices.{pictures_of, macroblocks, picture_slices}
use Rattle.pr_geom.specs.Blocks.{blocks_of}
use Rattle.pr_coeff.specs.Component.{progressive, interlaced}
use Rattle.pr_head.specs.declared.frame.FrameHeader.{FrameHeader}

-- the positions of a block in scan order: fields have one of their own
abbrev pub scan_of : Interlace → List ℕ
scan_of Progressive = progressive
scan_of TopFirst = interlaced
scan_of BottomFirst = interlaced

-- whether slices have alpha
abbrev pub has_alpha : AlphaKind → Bool
has_alpha Absent = false
has_alpha Eight = true
has_alpha Sixteen = true

-- the places of the slices of each picture, in order, at this binary logarithm of a slice's desired width
abbrev pub places_in : FrameHeader → ℕ → List SlicePlace
places_in h log2 = picture_slices (macroblocks h.width) (macroblocks (h.height / pictures_of h.interlace)) log2

-- the number of blocks of a part of a slice
abbrev pub block_count : FrameHeader → SlicePlace → Part → ℕ
block_count h place part = length (blocks_of h.chroma part place)

-- the number of alpha values of a slice: those of its 16 rows, 16 for each macroblock of a row
abbrev pub alpha_count : AlphaKind → SlicePlace → ℕ
alpha_count Absent place = 0
alpha_count Eight place = 256 * place.width
alpha_count Sixteen place = 256 * place.width

-- the number of bits of an alpha value
abbrev pub alpha_depth : AlphaKind → ℕ
alpha_depth Absent = 0
alpha_depth Eight = 8
alpha_depth Sixteen = 16
