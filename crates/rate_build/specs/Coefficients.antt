-- The coefficients of a picture: those of each block of each slice of its coded pictures, in order (blocks, slices and fields as
-- in SMPTE RDD 36, picture structure; the transform and the repeated edges are our own).
use Rattle.std.specs.Prelude.{◌≡◌, ℕ, ◌+◌, ◌*◌, ◌^◌, ◌<◌, List, [], ◌∷◌, length, map, Option, None, Some, ℤ}
use Rattle.std.specs.List.{All, AllZip, flat_map, range_with_len}
use Rattle.pw_planes.specs.declared.kinds.AlphaKind.{AlphaKind}
use Rattle.pw_planes.specs.declared.kinds.Chroma.{Chroma}
use Rattle.pw_planes.specs.declared.kinds.Depth.{Depth}
use Rattle.pw_planes.specs.declared.kinds.Interlace.{Interlace}
use Rattle.pw_planes.specs.declared.kinds.Interlace.TheVariants.{Progressive, TopFirst, BottomFirst}
use Rattle.pw_planes.specs.declared.kinds.Parity.{Parity}
use Rattle.pw_planes.specs.declared.kinds.Parity.TheVariants.{Top, Bottom}
use Rattle.pw_planes.specs.declared.picture.Picture.{Picture}
use Rattle.pw_planes.specs.Plane.{Raster, sample_at, block_at, field_of}
use Rattle.pw_planes.specs.Picture.{HasSize}
use Rattle.pw_planes.specs.Rows.{raster}
use Rattle.pw_planes.specs.Samples.{sample_bits}
use Rattle.pr_geom.specs.declared.layout.Layout.{Layout}
use Rattle.pr_geom.specs.declared.places.Part.{Part}
use Rattle.pr_geom.specs.declared.places.Part.TheVariants.{Y, Cb, Cr}
use Rattle.pr_geom.specs.declared.places.SlicePlace.{SlicePlace}
use Rattle.pr_geom.specs.Blocks.{blocks_of}
use Rattle.pr_geom.specs.Layout.{slices_of}
use Rattle.pr_geom.specs.Slices.{pictures_of}
use Rattle.pr_dct.specs.Transform.{coefficients}
use Rattle.pr_frame.specs.Forms.{alpha_count, alpha_depth}
use Rattle.rate_build.specs.declared.slices.SliceCoefficients.{SliceCoefficients}
use Rattle.rate_build.specs.Measures.{ArePart}

-- ---- blocks and slices

-- the coefficients of the block of a plane with its corner at a position
unfoldable pub coefficients_at : Raster → Depth → ℕ × ℕ → List ℤ
coefficients_at plane depth corner = coefficients (block_at plane corner.0 corner.1 depth)

-- the coefficients of the blocks of a part of a slice in its plane
unfoldable pub part_coefficients : Raster → Depth → Chroma → Part → SlicePlace → List (List ℤ)
part_coefficients plane depth chroma part slice = map (coefficients_at plane depth) (blocks_of chroma part slice)

-- the alpha values of a slice, if there is an alpha plane: its 16 rows from the left
unfoldable pub alpha_values : Option Raster → SlicePlace → List ℕ
alpha_values None slice = []
alpha_values (Some plane) slice = raster (16 * slice.width) 16 (λ column row. sample_at plane (16 * slice.column + column) (16 * slice.row + row))

-- ---- coded pictures

-- the planes of a coded picture
pub record Planes : Type 0 where
  pub y : Raster
  pub cb : Raster
  pub cr : Raster
  pub alpha : Option Raster

abbrev pub field_of_alpha : Option Raster → Parity → Option Raster
field_of_alpha None parity = None
field_of_alpha (Some plane) parity = Some (field_of plane parity)

-- one field of each plane
abbrev pub field_planes : Planes → Parity → Planes
field_planes p parity = record { y = field_of p.y parity; cb = field_of p.cb parity; cr = field_of p.cr parity; alpha = field_of_alpha p.alpha parity }

-- the coded pictures of a frame, the earlier one first
abbrev pub coded_pictures : Interlace → Planes → List Planes
coded_pictures Progressive p = p ∷ []
coded_pictures TopFirst p = field_planes p Top ∷ field_planes p Bottom ∷ []
coded_pictures BottomFirst p = field_planes p Bottom ∷ field_planes p Top ∷ []

abbrev pub planes_of : Picture → Planes
planes_of p = record { y = p.y; cb = p.cb; cr = p.cr; alpha = p.alpha }

-- the coefficients of a slice of a coded picture
abbrev pub slice_coefficients : Planes → Depth → Chroma → SlicePlace → SliceCoefficients
slice_coefficients p depth chroma slice = record {
  y = part_coefficients p.y depth chroma Y slice;
  cb = part_coefficients p.cb depth chroma Cb slice;
  cr = part_coefficients p.cr depth chroma Cr slice;
  alpha = alpha_values p.alpha slice;
}

-- those of all slices of a coded picture
unfoldable pub picture_coefficients : Layout → Depth → Planes → List SliceCoefficients
picture_coefficients l depth p = map (slice_coefficients p depth l.chroma) (slices_of l)

-- those of all slices of a frame: of the first coded picture, then of the second
abbrev pub frame_coefficients : Picture → Layout → List SliceCoefficients
frame_coefficients p l = flat_map (picture_coefficients l p.depth) (coded_pictures l.interlace (planes_of p))

-- ---- the conditions on coefficients

-- a slice has the blocks and the alpha values of its place in the layout
pub record IsSliceAt (chroma : Chroma) (alpha : AlphaKind) (place : SlicePlace) (s : SliceCoefficients) : Type 0 where
  pub y : length s.y ≡ length (blocks_of chroma Y place)
  pub cb : length s.cb ≡ length (blocks_of chroma Cb place)
  pub cr : length s.cr ≡ length (blocks_of chroma Cr place)
  pub values : length s.alpha ≡ alpha_count alpha place
  pub y_part : ArePart s.y
  pub cb_part : ArePart s.cb
  pub cr_part : ArePart s.cr
  pub alpha_range : All (λ value. value < 2 ^ alpha_depth alpha) s.alpha

-- the places of the slices of a frame: those of the first coded picture, then those of the second
abbrev pub frame_places : Layout → List SlicePlace
frame_places l = flat_map (λ picture. slices_of l) (range_with_len 0 (pictures_of l.interlace))

-- the coefficients of a frame as contracts see them
pub record FrameCoefficients : Type 0 where
  pub layout : Layout
  pub alpha : AlphaKind
  pub slices : List SliceCoefficients

-- the slices are those of the layout
abbrev pub AreOfLayout : FrameCoefficients → Type 0
AreOfLayout c = AllZip (IsSliceAt c.layout.chroma c.alpha) (frame_places c.layout) c.slices

-- ---- the conditions on pictures

-- the samples of a plane are of this depth
abbrev pub HasDepth : Raster → Depth → Type 0
HasDepth plane depth = All (λ sample. sample < 2 ^ sample_bits depth) plane.samples

-- a picture of the layout's size and chroma format, with samples of its depth
pub record IsPictureOf (l : Layout) (p : Picture) : Type 0 where
  pub size : HasSize p l.width l.height
  pub chroma : p.chroma ≡ l.chroma
  pub y : HasDepth p.y p.depth
  pub cb : HasDepth p.cb p.depth
  pub cr : HasDepth p.cr p.depth
