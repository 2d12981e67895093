-- For which coded frame a sample stands: its fields are those of the coded frame, each at its offset, and the bits
-- of each component stand for its blocks (SMPTE RDD 36). These bytes are free: reserved bits, the bytes of headers
-- after their known fields, those of a picture after its slices, those of the frame after its pictures and those of
-- the sample after the frame.
use Rattle.std.specs.Prelude.{◌≡◌, ◌≢◌, ℕ, ◌+◌, ◌-◌, ◌*◌, ◌≤◌, Bool, List, [], ◌∷◌, length, take, drop}
use Rattle.pw_bits.specs.Bits.{bits}
use Rattle.pw_planes.specs.declared.kinds.AlphaKind.{AlphaKind}
use Rattle.pw_planes.specs.declared.kinds.AlphaKind.TheVariants.{Absent, Eight, Sixteen}
use Rattle.pr_geom.specs.declared.places.TheConstants.{MAX_SLICES}
use Rattle.pr_geom.specs.declared.places.SlicePlace.{SlicePlace}
use Rattle.pr_geom.specs.declared.places.Part.TheVariants.{Y, Cb, Cr}
use Rattle.pr_geom.specs.Slices.{pictures_of}
use Rattle.pr_alpha.specs.Alpha as values
use Rattle.pr_coeff.specs.Component.{Block, Stands}
use Rattle.pr_head.specs.declared.frame.FrameHeader.{FrameHeader}
use Rattle.pr_head.specs.declared.slice.SliceHeader.{SliceHeader}
use Rattle.pr_head.specs.Header.{icpf, start_of, luma_of, chroma_weights_of, header_of, chroma_bits, interlace_bits, alpha_bits, HasSizes, HasForm}
use Rattle.pr_head.specs.Picture.{picture_of, slices_in, sizes_of, picture_size}
use Rattle.pr_head.specs.Slice.{least_slice_header, slice_size, stated_of, with_last}
use Rattle.pr_frame.specs.declared.coded.CodedSlice.{CodedSlice}
use Rattle.pr_frame.specs.declared.coded.CodedPicture.{CodedPicture}
use Rattle.pr_frame.specs.declared.coded.CodedFrame.{CodedFrame}
use Rattle.pr_frame.specs.Forms.{scan_of, has_alpha, places_in, block_count, alpha_count}

-- ---- a slice

-- bytes that stand for n blocks of a component
pub record ComponentStands (scan : List ℕ) (count : ℕ) (bytes : List ℕ) (blocks : List Block) : Type 0 where
  pub number : length blocks ≡ count
  pub stands : Stands (bits bytes) blocks scan

-- the bytes stand for `count` alpha values of n bits; no bytes stand for the greatest value everywhere
pub record ValuesStand (n : ℕ) (count : ℕ) (bytes : List ℕ) (l : List ℕ) : Type 0 where
  pub number : length l ≡ count
  pub stands : values.Stands (bits bytes) l n

-- the bytes stand for `count` alpha values of a slice: 16 rows, each from the left; a frame without alpha has none
abbrev pub AlphaStands : AlphaKind → ℕ → List ℕ → List ℕ → Type 0
AlphaStands Absent count bytes l = l ≡ []
AlphaStands Eight count bytes l = ValuesStand 8 count bytes l
AlphaStands Sixteen count bytes l = ValuesStand 16 count bytes l

-- the header of a slice of `size` bytes, which begins here; the last component has the rest
abbrev pub slice_header_in : Bool → ℕ → List ℕ → SliceHeader
slice_header_in alpha size b = with_last size alpha (stated_of alpha b)

-- The slice at this place, of `size` bytes, has this header: it is within the slice, and the components follow it
-- in order, with alpha last.
pub record HasSlice (alpha : Bool) (h : FrameHeader) (place : SlicePlace) (size : ℕ) (r : SliceHeader) (b : List ℕ) (s : CodedSlice) : Type 0 where
  pub least : least_slice_header alpha ≤ r.header
  pub whole : slice_size r ≡ size
  pub index_from : 1 ≤ r.index
  pub index_to : r.index ≤ 224
  pub index : r.index ≡ s.index
  pub y : ComponentStands (scan_of h.interlace) (block_count h place Y) (take r.y (drop r.header b)) s.y
  pub cb : ComponentStands (scan_of h.interlace) (block_count h place Cb) (take r.cb (drop (r.header + r.y) b)) s.cb
  pub cr : ComponentStands (scan_of h.interlace) (block_count h place Cr) (take r.cr (drop (r.header + r.y + r.cb) b)) s.cr
  pub alpha_values : AlphaStands h.alpha (alpha_count h.alpha place) (take r.alpha (drop (r.header + r.y + r.cb + r.cr) b)) s.alpha

-- these bytes begin with the slice at this place, which has `size` bytes
abbrev pub SliceStands : FrameHeader → SlicePlace → ℕ → List ℕ → CodedSlice → Type 0
SliceStands h place size b s = HasSlice (has_alpha h.alpha) h place size (slice_header_in (has_alpha h.alpha) size b) b s

-- ---- a picture

-- these bytes begin with the slices at these places, of these sizes, in order
abbrev pub SlicesStand : FrameHeader → List SlicePlace → List ℕ → List ℕ → List CodedSlice → Type 0
SlicesStand h [] [] b [] = Unit {0}
SlicesStand h (place ∷ places) (size ∷ sizes) b (slice ∷ slices) = SliceStands h place size b slice × SlicesStand h places sizes (drop size b) slices
SlicesStand h _ _ b _ = ⊥

-- the sizes in the table of a picture, which follows its header
abbrev pub table_of : FrameHeader → List ℕ → List ℕ
table_of h b = sizes_of (slices_in h (picture_of b)) (drop (picture_of b).header b)

-- the bytes after a picture's table
abbrev pub behind_table : FrameHeader → List ℕ → List ℕ
behind_table h b = drop ((picture_of b).header + 2 * slices_in h (picture_of b)) b

-- these bytes begin with the picture, and the frame ends after `room` of them
pub record PictureStands (h : FrameHeader) (room : ℕ) (b : List ℕ) (x : CodedPicture) : Type 0 where
  pub fields : 8 ≤ room
  pub header : 8 ≤ (picture_of b).header
  pub whole : (picture_of b).header ≤ (picture_of b).size
  pub within : (picture_of b).size ≤ room
  pub log2 : (picture_of b).log2 ≡ x.log2
  pub few : slices_in h (picture_of b) ≤ MAX_SLICES
  pub table : picture_size (picture_of b) (table_of h b) ≤ (picture_of b).size
  pub slices : SlicesStand h (places_in h x.log2) (table_of h b) (behind_table h b) x.slices

-- these bytes begin with the pictures, in order
abbrev pub PicturesStand : FrameHeader → ℕ → List ℕ → List CodedPicture → Type 0
PicturesStand h room b [] = Unit {0}
PicturesStand h room b (x ∷ xs) = PictureStands h room b x × PicturesStand h (room - (picture_of b).size) (drop (picture_of b).size b) xs

-- ---- a frame, in a sample

-- the sample begins with the header of a frame
pub record HeaderStands (s : List ℕ) (h : FrameHeader) : Type 0 where
  pub fields : 28 ≤ length s
  pub mark : (start_of s).mark ≡ icpf
  pub sizes : HasSizes (length s) (start_of s)
  pub form : HasForm (start_of s)
  pub chroma : 2 ≤ chroma_bits (start_of s)
  pub interlace : interlace_bits (start_of s) ≢ 3
  pub alpha : alpha_bits (start_of s) ≤ 2
  pub is : header_of (start_of s) (luma_of s) (chroma_weights_of s) ≡ h

-- the number of bytes of the header, counted from the frame's first
abbrev pub header_taken : List ℕ → ℕ
header_taken s = 8 + (start_of s).header

-- The sample stands for the coded frame.
pub record FrameStands (s : List ℕ) (f : CodedFrame) : Type 0 where
  pub header : HeaderStands s f.header
  pub number : length f.pictures ≡ pictures_of f.header.interlace
  pub pictures : PicturesStand f.header ((start_of s).size - header_taken s) (drop (header_taken s) s) f.pictures
