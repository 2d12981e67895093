-- Validity of coded frames: what every frame that is read satisfies, and what a frame that is written has to
-- satisfy.
use Rattle.std.specs.Prelude.{◌≡◌, ◌^◌, ◌<◌, ◌≤◌, List, [], ◌∷◌, length, nat_abs}
use Rattle.std.specs.List.{All}
use Rattle.pr_geom.specs.declared.places.SlicePlace.{SlicePlace}
use Rattle.pr_geom.specs.declared.places.Part.TheVariants.{Y, Cb, Cr}
use Rattle.pr_geom.specs.Faults.{IsAllowed}
use Rattle.pr_geom.specs.Slices.{pictures_of}
use Rattle.pr_quant.specs.Matrices.{IsWeight}
use Rattle.pr_coeff.specs.Component.{Block}
use Rattle.pr_head.specs.declared.frame.FrameHeader.{FrameHeader}
use Rattle.pr_head.specs.Header.{HasLayoutSize}
use Rattle.pr_head.specs.Own.{version_of}
use Rattle.pr_frame.specs.declared.coded.CodedSlice.{CodedSlice}
use Rattle.pr_frame.specs.declared.coded.CodedPicture.{CodedPicture}
use Rattle.pr_frame.specs.declared.coded.CodedFrame.{CodedFrame}
use Rattle.pr_frame.specs.Forms.{places_in, block_count, alpha_count, alpha_depth}
use Rattle.pr_frame.specs.Written.{frame_length_of}

-- ---- what every coded frame has

-- A slice has the blocks and the alpha values of its place in the layout, and an index from 1 to 224.
pub record IsCodedSlice (h : FrameHeader) (place : SlicePlace) (s : CodedSlice) : Type 0 where
  pub index_from : 1 ≤ s.index
  pub index_to : s.index ≤ 224
  pub y : length s.y ≡ block_count h place Y
  pub cb : length s.cb ≡ block_count h place Cb
  pub cr : length s.cr ≡ block_count h place Cr
  pub alpha : length s.alpha ≡ alpha_count h.alpha place
  pub values : All (λ value. value < 2 ^ alpha_depth h.alpha) s.alpha

-- slices at these places, each at its own
abbrev pub AreCodedSlices : FrameHeader → List SlicePlace → List CodedSlice → Type 0
AreCodedSlices h [] [] = Unit {0}
AreCodedSlices h [] (slice ∷ slices) = ⊥
AreCodedSlices h (place ∷ places) [] = ⊥
AreCodedSlices h (place ∷ places) (slice ∷ slices) = IsCodedSlice h place slice × AreCodedSlices h places slices

-- a picture of a frame with this header: it has a layout, and the slices of the layout
pub record IsCodedPicture (h : FrameHeader) (x : CodedPicture) : Type 0 where
  pub layout : IsAllowed h.width h.height x.log2 h.interlace
  pub slices : AreCodedSlices h (places_in h x.log2) x.slices

-- a frame: as many pictures as its header says, each with its layout's slices
pub record IsCodedFrame (f : CodedFrame) : Type 0 where
  pub layout : HasLayoutSize f.header
  pub number : length f.pictures ≡ pictures_of f.header.interlace
  pub pictures : All (IsCodedPicture f.header) f.pictures

-- ---- what a frame that is written has to satisfy

-- a quantised value of magnitude at most 8,191
abbrev pub IsWritableBlock : Block → Type 0
IsWritableBlock block = All (λ value. nat_abs value ≤ 8191) block

-- a slice whose values are such
pub record IsWritableSlice (s : CodedSlice) : Type 0 where
  pub y : All IsWritableBlock s.y
  pub cb : All IsWritableBlock s.cb
  pub cr : All IsWritableBlock s.cr

abbrev pub IsWritablePicture : CodedPicture → Type 0
IsWritablePicture x = All IsWritableSlice x.slices

-- a header whose fields can be written: its version is the one for its form
pub record IsWritableHeader (h : FrameHeader) : Type 0 where
  pub version : h.version ≡ version_of h.chroma h.alpha
  pub aspect : h.aspect < 16
  pub rate : h.rate < 16
  pub luma : All IsWeight h.luma
  pub chroma_weights : All IsWeight h.chroma_weights

-- A coded frame whose values can be written.
pub record IsWritable (f : CodedFrame) : Type 0 where
  pub coded : IsCodedFrame f
  pub header : IsWritableHeader f.header
  pub values : All IsWritablePicture f.pictures

-- A coded frame that can be written: also, its length is a number of 32 bits.
pub record CanBeWritten (f : CodedFrame) : Type 0 where
  pub writable : IsWritable f
  pub short : frame_length_of f < 2 ^ 32

-- ---- what the types say: the identifier has 4 bytes, a matrix 64 weights and a block 64 values

pub record HasArrays (h : FrameHeader) : Type 0 where
  pub encoder : length h.encoder ≡ 4
  pub luma : length h.luma ≡ 64
  pub chroma_weights : length h.chroma_weights ≡ 64

abbrev pub IsBlock : Block → Type 0
IsBlock block = length block ≡ 64

pub record HasBlocks (s : CodedSlice) : Type 0 where
  pub y : All IsBlock s.y
  pub cb : All IsBlock s.cb
  pub cr : All IsBlock s.cr

-- a value of the frame's type
pub record HasShape (f : CodedFrame) : Type 0 where
  pub header : HasArrays f.header
  pub blocks : All (λ (x : CodedPicture). All HasBlocks x.slices) f.pictures
