-- Reading a frame from left to right: the coded frame, or the first fault and its offset, in the order of reading
-- (our own). A slice's header is validated before its components are read, these in their order with alpha last,
-- and the slices of a picture before the next picture.
use Rattle.std.specs.Prelude.{◌≡◌, ℕ, zero, suc, ◌+◌, List, [], ◌∷◌, length, take, drop, Option, Result, Ok, Err}
use Rattle.std.specs.Result.{result_err}
use Rattle.pw_outside.specs.Reading.{Fault, Rest, Read, ◌>>=◌, bad}
use Rattle.pw_bits.specs.Bits.{bits}
use Rattle.pw_planes.specs.declared.kinds.AlphaKind.{AlphaKind}
use Rattle.pw_planes.specs.declared.kinds.AlphaKind.TheVariants.{Absent, Eight, Sixteen}
use Rattle.pr_geom.specs.declared.places.SlicePlace.{SlicePlace}
use Rattle.pr_geom.specs.declared.places.Part.TheVariants.{Y, Cb, Cr}
use Rattle.pr_geom.specs.Slices.{pictures_of}
use Rattle.pr_alpha.specs.Reading as values
use Rattle.pr_alpha.specs.declared.read.AlphaFault.{AlphaFault}
use Rattle.pr_alpha.specs.declared.read.AlphaFault.TheVariants as wrong
use Rattle.pr_coeff.specs.Component.{Block}
use Rattle.pr_coeff.specs.Reading as coefficients
use Rattle.pr_coeff.specs.declared.read.CoeffFault.{CoeffFault}
use Rattle.pr_coeff.specs.declared.read.CoeffFault.TheVariants as errors
use Rattle.pr_head.specs.declared.fault.FrameKind.{FrameKind}
use Rattle.pr_head.specs.declared.fault.FrameKind.TheVariants as kinds
use Rattle.pr_head.specs.declared.fault.FrameFault.{FrameFault}
use Rattle.pr_head.specs.declared.fault.FrameFault.TheVariants as faults
use Rattle.pr_head.specs.declared.frame.FrameHeader.{FrameHeader}
use Rattle.pr_head.specs.declared.slice.SliceHeader.{SliceHeader}
use Rattle.pr_head.specs.Header.{header_at}
use Rattle.pr_head.specs.Picture.{picture_at, slices_in, table_at}
use Rattle.pr_head.specs.Slice.{slice_at}
use Rattle.pr_frame.specs.declared.coded.CodedSlice.{CodedSlice}
use Rattle.pr_frame.specs.declared.coded.CodedPicture.{CodedPicture}
use Rattle.pr_frame.specs.declared.coded.CodedFrame.{CodedFrame}
use Rattle.pr_frame.specs.Forms.{scan_of, has_alpha, places_in, block_count, alpha_count}

-- ---- components

-- n bytes further
abbrev pub ahead : ℕ → Rest → Rest
ahead n s = record { place = s.place + n; bytes = drop n s.bytes }

-- the kind of a fault of coefficients
abbrev pub kind_of : coefficients.Fault → FrameKind
kind_of coefficients.codeword = kinds.Codeword
kind_of coefficients.run_past = kinds.RunPast
kind_of coefficients.level_range = kinds.LevelRange

-- a fault of a component is at its first byte
abbrev pub located : {A : Type 0} → ℕ → Result A coefficients.Fault → Result A (Fault FrameKind)
located place (Ok blocks) = Ok blocks
located place (Err fault) = bad (kind_of fault) place

-- the frame's error for an error of its component at this offset
abbrev pub IsFaultOf : CoeffFault → ℕ → FrameFault → Type 0
IsFaultOf errors.Codeword place fault = fault ≡ faults.Bad kinds.Codeword place
IsFaultOf errors.RunPast place fault = fault ≡ faults.Bad kinds.RunPast place
IsFaultOf errors.LevelRange place fault = fault ≡ faults.Bad kinds.LevelRange place
IsFaultOf errors.Failed place fault = fault ≡ faults.Failed

-- the frame's error for a fault of the component at this offset; no other error is one
abbrev pub IsHeldFault : {A : Type 0} → ℕ → Result A coefficients.Fault → FrameFault → Type 0
IsHeldFault place found (faults.Bad kind at) = (fault : coefficients.Fault) × (found ≡ Err fault) × (kind ≡ kind_of fault) × (at ≡ place)
IsHeldFault place found faults.Failed = ⊥
IsHeldFault place found faults.NoMemory = ⊥

-- a component of n blocks in the next `size` bytes
unfoldable pub blocks_at : List ℕ → ℕ → ℕ → Rest → Read FrameKind (List Block)
blocks_at scan count size s = do
  blocks ← located s.place (coefficients.component_at count scan (bits (take size s.bytes)))
  Ok (blocks, ahead size s)

-- ---- alpha values

-- the kind of a fault of alpha values
abbrev pub kind_of_alpha : values.Fault → FrameKind
kind_of_alpha values.wanting = kinds.AlphaShort
kind_of_alpha values.past = kinds.AlphaPast

-- a fault of alpha values is at their first byte
abbrev pub located_alpha : {A : Type 0} → ℕ → Result A values.Fault → Result A (Fault FrameKind)
located_alpha place (Ok l) = Ok l
located_alpha place (Err fault) = bad (kind_of_alpha fault) place

-- the frame's error for an error of its alpha values at this offset
abbrev pub IsAlphaFaultOf : AlphaFault → ℕ → FrameFault → Type 0
IsAlphaFaultOf wrong.AlphaShort place fault = fault ≡ faults.Bad kinds.AlphaShort place
IsAlphaFaultOf wrong.AlphaPast place fault = fault ≡ faults.Bad kinds.AlphaPast place
IsAlphaFaultOf wrong.Failed place fault = fault ≡ faults.Failed

-- `count` alpha values of n bits in the next `size` bytes
unfoldable pub values_at : ℕ → ℕ → ℕ → Rest → Read FrameKind (List ℕ)
values_at n count size s = do
  l ← located_alpha s.place (values.alpha_at count n (bits (take size s.bytes)))
  Ok (l, ahead size s)

-- the alpha values of a slice, `count` of them, in the next `size` bytes; none in a frame without alpha
abbrev pub alpha_at : AlphaKind → ℕ → ℕ → Rest → Read FrameKind (List ℕ)
alpha_at Absent count size s = Ok ([], s)
alpha_at Eight count size s = values_at 8 count size s
alpha_at Sixteen count size s = values_at 16 count size s

-- ---- slices

-- the components of a slice, after its header, with alpha last
unfoldable pub components_at : FrameHeader → SlicePlace → SliceHeader × Rest → Read FrameKind CodedSlice
components_at h place head = do
  y ← blocks_at (scan_of h.interlace) (block_count h place Y) head.0.y head.1
  cb ← blocks_at (scan_of h.interlace) (block_count h place Cb) head.0.cb y.1
  cr ← blocks_at (scan_of h.interlace) (block_count h place Cr) head.0.cr cb.1
  alpha ← alpha_at h.alpha (alpha_count h.alpha place) head.0.alpha cr.1
  Ok (record { index = head.0.index; y = y.0; cb = cb.0; cr = cr.0; alpha = alpha.0 }, alpha.1)

-- the slice at this place in the next `size` bytes
unfoldable pub coded_slice_at : FrameHeader → SlicePlace → ℕ → Rest → Read FrameKind CodedSlice
coded_slice_at h place size s = slice_at size (has_alpha h.alpha) s >>= components_at h place

-- the slices at these places, of these sizes
unfoldable pub coded_slices_at : FrameHeader → List SlicePlace → List ℕ → Rest → Read FrameKind (List CodedSlice)
coded_slices_at h (place ∷ places) (size ∷ sizes) s = do
  first ← coded_slice_at h place size s
  others ← coded_slices_at h places sizes first.1
  Ok (first.0 ∷ others.0, others.1)
coded_slices_at h _ _ s = Ok ([], s)

-- ---- pictures and the frame

-- the picture that begins here, in a frame of F bytes
unfoldable pub coded_picture_at : ℕ → FrameHeader → Rest → Read FrameKind CodedPicture
coded_picture_at F h s = do
  head ← picture_at F h s
  sizes ← table_at head.0 (slices_in h head.0) head.1
  slices ← coded_slices_at h (places_in h head.0.log2) sizes.0 sizes.1
  Ok (record { log2 = head.0.log2; slices = slices.0 }, ahead head.0.size s)

-- n pictures in order
unfoldable pub coded_pictures_at : ℕ → ℕ → FrameHeader → Rest → Read FrameKind (List CodedPicture)
coded_pictures_at zero F h s = Ok ([], s)
coded_pictures_at (suc count) F h s = do
  first ← coded_picture_at F h s
  others ← coded_pictures_at count F h first.1
  Ok (first.0 ∷ others.0, others.1)

-- the frame that a sample of n bytes begins with
unfoldable pub frame_at : ℕ → Rest → Read FrameKind CodedFrame
frame_at n s = do
  head ← header_at n s.bytes
  pictures ← coded_pictures_at (pictures_of head.0.header.interlace) head.0.size head.0.header head.1
  Ok (record { header = head.0.header; pictures = pictures.0 }, pictures.1)

-- the coded frame of a sample, or its first fault
unfoldable pub frame_of : List ℕ → Result CodedFrame (Fault FrameKind)
frame_of sample = frame_at (length sample) (record { place = 0; bytes = sample }) >>= λ found. Ok found.0

-- the first fault of a sample; none if it stands for a coded frame
abbrev pub frame_fault : List ℕ → Option (Fault FrameKind)
frame_fault sample = result_err (frame_of sample)
