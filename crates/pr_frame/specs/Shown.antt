-- The picture that a coded frame shows (SMPTE RDD 36, decoding of pictures, slices and blocks, inverse quantization, fields of a
-- frame; the product without a division, the clipping, and both halves of the transform with one rounding are our own).
use Rattle.std.specs.Prelude.{◌≡◌, ℕ, ◌+◌, ◌-◌, ◌*◌, ◌/◌, ◌^◌, ◌<◌, ◌&&◌, Bool, if◌then◌else◌, List, [], ◌∷◌, ◌++◌, map, slice_index, slice_index_or, get_or, Option, None, Some, IfSome, is_some, min, max, ℤ, pos, nat_abs}
use Rattle.std.specs.List.{All, flat_map, range_with_len}
use Rattle.pw_planes.specs.declared.kinds.AlphaKind.{AlphaKind}
use Rattle.pw_planes.specs.declared.kinds.AlphaKind.TheVariants.{Absent, Eight, Sixteen}
use Rattle.pw_planes.specs.declared.kinds.Depth.{Depth}
use Rattle.pw_planes.specs.declared.kinds.Interlace.{Interlace}
use Rattle.pw_planes.specs.declared.kinds.Interlace.TheVariants.{Progressive, TopFirst, BottomFirst}
use Rattle.pw_planes.specs.declared.picture.Picture.{Picture}
use Rattle.pw_planes.specs.Picture.{HasSize}
use Rattle.pw_planes.specs.Plane.{Raster, uniform, is_among, frame_of}
use Rattle.pw_planes.specs.Rows.{raster}
use Rattle.pw_planes.specs.Samples.{sample_bits, chroma_width}
use Rattle.pr_geom.specs.declared.places.Part.{Part}
use Rattle.pr_geom.specs.declared.places.Part.TheVariants.{Y, Cb, Cr}
use Rattle.pr_geom.specs.declared.places.SlicePlace.{SlicePlace}
use Rattle.pr_geom.specs.Blocks.{blocks_of}
use Rattle.pr_geom.specs.Slices.{pictures_of}
use Rattle.pr_quant.specs.Quantised.{scale_of, dequantised}
use Rattle.pr_dct.specs.Transform.{samples}
use Rattle.pr_dct.specs.Shown as clipping
use Rattle.pr_coeff.specs.Component.{Block}
use Rattle.pr_head.specs.declared.frame.FrameHeader.{FrameHeader}
use Rattle.pr_frame.specs.declared.coded.CodedSlice.{CodedSlice}
use Rattle.pr_frame.specs.declared.coded.CodedPicture.{CodedPicture}
use Rattle.pr_frame.specs.declared.coded.CodedFrame.{CodedFrame}
use Rattle.pr_frame.specs.declared.showing.Shown.{Shown}
use Rattle.pr_frame.specs.Forms.{places_in, has_alpha, alpha_depth}
use Rattle.pr_frame.specs.Stands.{FrameStands}

-- ---- a block

-- the products of quantised values, each with its weight and the scale of the index
abbrev pub products : List ℕ → ℕ → Block → List ℤ
products weights index block = map (λ p. dequantised (get_or block p (pos 0)) (get_or weights p 0 * scale_of index)) (range_with_len 0 64)

-- signed values as samples of a depth, clipped to its range
abbrev pub samples_shown : Depth → List ℤ → List ℕ
samples_shown depth values = map (λ a. nat_abs (clipping.shown depth a)) values

-- the samples of a block: the transform of its products, clipped
unfoldable pub shown_block : Depth → List ℕ → ℕ → Block → List ℕ
shown_block depth weights index block = samples_shown depth (samples (products weights index block))

-- ---- blocks at their positions

-- eight rows of eight samples, with their corner at a position
pub record Placed : Type 0 where
  pub corner : ℕ × ℕ
  pub samples : List ℕ

-- whether the block has the sample at a column and a row
abbrev pub has : Placed → ℕ → ℕ → Bool
has b column row = is_among b.corner.0 8 column && is_among b.corner.1 8 row

-- the sample at a column and a row: that of the block that has it
abbrev pub sample_among : List Placed → ℕ → ℕ → ℕ
sample_among [] column row = 0
sample_among (b ∷ bs) column row =
    if has b column row then slice_index b.samples (8 * (row - b.corner.1) + (column - b.corner.0)) else sample_among bs column row

-- the plane of these blocks
unfoldable pub plane_of : ℕ → ℕ → List Placed → Raster
plane_of width height blocks = record { width = width; height = height; samples = raster width height (sample_among blocks) }

-- ---- a slice

-- the blocks of a part of a slice
abbrev pub part_of : Part → CodedSlice → List Block
part_of Y s = s.y
part_of Cb s = s.cb
part_of Cr s = s.cr

-- the weights of a part
abbrev pub weights_of : FrameHeader → Part → List ℕ
weights_of h Y = h.luma
weights_of h Cb = h.chroma_weights
weights_of h Cr = h.chroma_weights

-- blocks at these corners
abbrev pub placed : List (ℕ × ℕ) → List (List ℕ) → List Placed
placed (corner ∷ corners) (block ∷ blocks) = record { corner = corner; samples = block } ∷ placed corners blocks
placed _ _ = []

-- the samples of a part of a slice, each block at its position
unfoldable pub shown_part : FrameHeader → Depth → Part → SlicePlace → CodedSlice → List Placed
shown_part h depth part place s = placed (blocks_of h.chroma part place) (map (shown_block depth (weights_of h part) s.index) (part_of part s))

-- the alpha value of a slice at a column and a row: its values are its 16 rows, each from the left
abbrev pub alpha_value : SlicePlace → List ℕ → ℕ → ℕ → ℕ
alpha_value place values column row = slice_index values (16 * place.width * (row - 16 * place.row) + (column - 16 * place.column))

-- those of the block with this corner
unfoldable pub value_block : SlicePlace → List ℕ → ℕ × ℕ → List ℕ
value_block place values corner = raster 8 8 (λ column row. alpha_value place values (corner.0 + column) (corner.1 + row))

-- the alpha values of a slice, in blocks at the positions of luma's
unfoldable pub shown_values : FrameHeader → SlicePlace → CodedSlice → List Placed
shown_values h place s = placed (blocks_of h.chroma Y place) (map (value_block place s.alpha) (blocks_of h.chroma Y place))

-- ---- a coded picture

-- the samples of slices, each block at its position
abbrev pub all_shown : (SlicePlace → CodedSlice → List Placed) → List SlicePlace → List CodedSlice → List Placed
all_shown f (place ∷ places) (slice ∷ slices) = f place slice ++ all_shown f places slices
all_shown f _ _ = []

-- the height of each coded picture
abbrev pub height_of : FrameHeader → ℕ
height_of h = h.height / pictures_of h.interlace

-- the width of the plane of a part
abbrev pub width_of : FrameHeader → Part → ℕ
width_of h Y = h.width
width_of h Cb = chroma_width h.chroma h.width
width_of h Cr = chroma_width h.chroma h.width

-- the plane of a part of a coded picture
abbrev pub part_plane : FrameHeader → Depth → Part → CodedPicture → Raster
part_plane h depth part x = plane_of (width_of h part) (height_of h) (all_shown (shown_part h depth part) (places_in h x.log2) x.slices)

-- its alpha plane
abbrev pub alpha_plane : FrameHeader → CodedPicture → Raster
alpha_plane h x = plane_of h.width (height_of h) (all_shown (shown_values h) (places_in h x.log2) x.slices)

-- ---- a frame

-- a plane of a frame from those of its coded pictures: the one, or the two fields, the earlier first
abbrev pub woven : Interlace → List Raster → Raster
woven Progressive planes = slice_index_or planes 0 (uniform 1 1 0)
woven TopFirst planes = frame_of (slice_index_or planes 0 (uniform 1 1 0)) (slice_index_or planes 1 (uniform 1 1 0))
woven BottomFirst planes = frame_of (slice_index_or planes 1 (uniform 1 1 0)) (slice_index_or planes 0 (uniform 1 1 0))

-- the plane of a part of a frame
abbrev pub shown_plane : CodedFrame → Depth → Part → Raster
shown_plane f depth part = woven f.header.interlace (map (part_plane f.header depth part) f.pictures)

-- the alpha plane, if the frame has alpha: the values as they are, at every depth
abbrev pub shown_alpha : CodedFrame → AlphaKind → Option Raster
shown_alpha f Absent = None
shown_alpha f Eight = Some (woven f.header.interlace (map (alpha_plane f.header) f.pictures))
shown_alpha f Sixteen = Some (woven f.header.interlace (map (alpha_plane f.header) f.pictures))

-- The picture that a coded frame shows at a depth.
unfoldable pub shown : CodedFrame → Depth → Picture
shown f depth = record {
  y = shown_plane f depth Y;
  cb = shown_plane f depth Cb;
  cr = shown_plane f depth Cr;
  alpha = shown_alpha f f.header.alpha;
  chroma = f.header.chroma;
  depth = depth;
}

-- ---- what is reported of a sample

-- the indices of slices
abbrev pub slice_indices : List CodedSlice → List ℕ
slice_indices slices = map (λ (s : CodedSlice). s.index) slices

-- the indices of all slices of a frame
abbrev pub indices_of : CodedFrame → List ℕ
indices_of f = flat_map (λ (x : CodedPicture). slice_indices x.slices) f.pictures

-- the least of some bytes
abbrev pub least : List ℕ → ℕ
least [] = 255
least (n ∷ ns) = min n (least ns)

-- the greatest
abbrev pub greatest : List ℕ → ℕ
greatest [] = 0
greatest (n ∷ ns) = max n (greatest ns)

-- what is reported of a frame that is shown: its header, the least and the greatest index of its slices, and its
-- picture
abbrev pub shown_of : Depth → CodedFrame → Shown
shown_of depth f = record { header = f.header; least_index = least (indices_of f); greatest_index = greatest (indices_of f); picture = shown f depth }

-- The sample stands for a coded frame, and this is reported of it.
pub record IsShownBy (depth : Depth) (sample : List ℕ) (p : Shown) : Type 0 where
  pub frame : CodedFrame
  pub stands : FrameStands sample frame
  pub is : p ≡ shown_of depth frame

-- ---- what every shown picture is

-- each sample is below 2 to the depth
abbrev pub HasDepth : Depth → List ℕ → Type 0
HasDepth depth samples = All (λ sample. sample < 2 ^ sample_bits depth) samples

-- A picture of the form that a header says, at a depth.
pub record HasHeaderForm (h : FrameHeader) (depth : Depth) (p : Picture) : Type 0 where
  pub size : HasSize p h.width h.height
  pub chroma : p.chroma ≡ h.chroma
  pub depth_is : p.depth ≡ depth
  pub alpha : is_some p.alpha ≡ has_alpha h.alpha
  pub luma : HasDepth depth p.y.samples
  pub cb : HasDepth depth p.cb.samples
  pub cr : HasDepth depth p.cr.samples
  pub values : IfSome p.alpha (λ a. All (λ value. value < 2 ^ alpha_depth h.alpha) a.samples)
