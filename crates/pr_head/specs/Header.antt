-- The header of a frame (SMPTE RDD 36, frame syntax and frame header).
use Rattle.std.specs.Prelude.{◌≡◌, ℕ, ◌+◌, ◌*◌, ◌/◌, ◌%◌, ◌<◌, ◌≤◌, Bool, not, ◌||◌, nat_lt, ◌==◌, if◌then◌else◌, List, [], ◌∷◌, ◌++◌, length, take, drop, replicate, Result, Ok}
use Rattle.std.specs.Int.{w16, w32, to_be_bytes}
use Rattle.pw_outside.specs.Reading.{Fault, Read, ◌>>=◌, refuse}
use Rattle.pw_planes.specs.declared.kinds.Chroma.{Chroma}
use Rattle.pw_planes.specs.declared.kinds.Chroma.TheVariants.{C422, C444}
use Rattle.pw_planes.specs.declared.kinds.AlphaKind.{AlphaKind}
use Rattle.pw_planes.specs.declared.kinds.AlphaKind.TheVariants.{Absent, Eight, Sixteen}
use Rattle.pw_planes.specs.declared.kinds.Interlace.{Interlace}
use Rattle.pw_planes.specs.declared.kinds.Interlace.TheVariants.{Progressive, TopFirst, BottomFirst}
use Rattle.pw_planes.specs.declared.plane.TheConstants.{MAX_WIDTH, MAX_HEIGHT}
use Rattle.pr_geom.specs.Slices.{pictures_of}
use Rattle.pr_head.specs.declared.fault.FrameKind.{FrameKind}
use Rattle.pr_head.specs.declared.fault.FrameKind.TheVariants as kinds
use Rattle.pr_head.specs.declared.frame.FrameHeader.{FrameHeader}
use Rattle.pr_head.specs.declared.start.Start.{Start}
use Rattle.pr_head.specs.Bytes.{byte, number16, number32}

-- the four bytes that mark a frame, `icpf`
abbrev pub icpf : ℕ
icpf = 0x69637066

-- ---- the codes of the forms

abbrev pub chroma_code : Chroma → ℕ
chroma_code C422 = 2
chroma_code C444 = 3

abbrev pub interlace_code : Interlace → ℕ
interlace_code Progressive = 0
interlace_code TopFirst = 1
interlace_code BottomFirst = 2

abbrev pub alpha_code : AlphaKind → ℕ
alpha_code Absent = 0
alpha_code Eight = 1
alpha_code Sixteen = 2

abbrev pub chroma_of : ℕ → Chroma
chroma_of code = if code == 2 then C422 else C444

abbrev pub interlace_of : ℕ → Interlace
interlace_of code = if code == 0 then Progressive else (if code == 1 then TopFirst else BottomFirst)

abbrev pub alpha_of : ℕ → AlphaKind
alpha_of code = if code == 0 then Absent else (if code == 1 then Eight else Sixteen)

-- ---- the fields before the matrices

-- the fields of the first 28 bytes by their offsets; reserved bits are skipped
unfoldable pub start_of : List ℕ → Start
start_of s = record {
  size = number32 s 0;
  mark = number32 s 4;
  header = number16 s 8;
  version = byte s 11;
  encoder = take 4 (drop 12 s);
  width = number16 s 16;
  height = number16 s 18;
  forms = byte s 20;
  rates = byte s 21;
  primaries = byte s 22;
  transfer = byte s 23;
  matrix = byte s 24;
  alpha = byte s 25;
  loads = byte s 27;
}

abbrev pub chroma_bits : Start → ℕ
chroma_bits r = r.forms / 64

abbrev pub interlace_bits : Start → ℕ
interlace_bits r = r.forms / 4 % 4

abbrev pub alpha_bits : Start → ℕ
alpha_bits r = r.alpha % 16

-- whether the frame has a luma matrix, and a chroma matrix
abbrev pub loads_luma : Start → Bool
loads_luma r = r.loads / 2 % 2 == 1

abbrev pub loads_chroma : Start → Bool
loads_chroma r = r.loads % 2 == 1

-- the number of bytes of a matrix
abbrev pub matrix_size : Bool → ℕ
matrix_size loaded = if loaded then 64 else 0

-- the number of bytes of the matrices
abbrev pub matrices_size : Start → ℕ
matrices_size r = matrix_size (loads_luma r) + matrix_size (loads_chroma r)

-- ---- the matrices

-- the matrix at the start of these bytes if it is loaded, and the other one else
abbrev pub matrix_at : Bool → List ℕ → List ℕ → List ℕ
matrix_at loaded other s = if loaded then take 64 s else other

-- the luma matrix; 4 everywhere if none is loaded
abbrev pub luma_of : List ℕ → List ℕ
luma_of s = matrix_at (loads_luma (start_of s)) (replicate 64 4) (drop 28 s)

-- the chroma matrix, after the luma matrix; the luma matrix in use if none is loaded (our own)
abbrev pub chroma_weights_of : List ℕ → List ℕ
chroma_weights_of s = matrix_at (loads_chroma (start_of s)) (luma_of s) (drop (28 + matrix_size (loads_luma (start_of s))) s)

-- ---- the header

-- the header of these fields and matrices
abbrev pub header_of : Start → List ℕ → List ℕ → FrameHeader
header_of r luma chroma_weights = record {
  version = r.version;
  encoder = r.encoder;
  width = r.width;
  height = r.height;
  chroma = chroma_of (chroma_bits r);
  interlace = interlace_of (interlace_bits r);
  aspect = r.rates / 16;
  rate = r.rates % 16;
  primaries = r.primaries;
  transfer = r.transfer;
  matrix = r.matrix;
  alpha = alpha_of (alpha_bits r);
  luma = luma;
  chroma_weights = chroma_weights;
}

-- a header, the number of bytes that it takes from the first of the frame on, and the frame's size
pub record Opened : Type 0 where
  pub header : FrameHeader
  pub taken : ℕ
  pub size : ℕ

abbrev pub opened_of : List ℕ → Opened
opened_of s = record {
  header = header_of (start_of s) (luma_of s) (chroma_weights_of s);
  taken = 8 + (start_of s).header;
  size = (start_of s).size;
}

-- ---- the faults, in the order of reading (our own)

-- the first fault of the mark and of the sizes, in a sample of n bytes
unfoldable pub size_fault : ℕ → Start → Result (Unit {0}) (Fault FrameKind)
size_fault n r = do
  _ ← refuse (not (r.mark == icpf)) kinds.NoIcpf 4
  _ ← refuse (nat_lt r.size 28) kinds.FrameSize 0
  _ ← refuse (nat_lt n r.size) kinds.FrameSize 0
  _ ← refuse (nat_lt r.header (20 + matrices_size r)) kinds.HeaderSize 8
  _ ← refuse (nat_lt r.size (8 + r.header)) kinds.HeaderSize 8
  Ok tt

-- the first fault of the version and of the form
unfoldable pub form_fault : Start → Result (Unit {0}) (Fault FrameKind)
form_fault r = do
  _ ← refuse (nat_lt 1 r.version) kinds.Version 11
  _ ← refuse (nat_lt (chroma_bits r) 2) kinds.Chroma 20
  _ ← refuse (interlace_bits r == 3) kinds.Interlace 20
  _ ← refuse (nat_lt 2 (alpha_bits r)) kinds.AlphaType 25
  _ ← refuse (r.width == 0 || r.height == 0) kinds.SizeZero 16
  _ ← refuse (nat_lt MAX_WIDTH r.width || nat_lt MAX_HEIGHT r.height) kinds.SizeLimit 16
  _ ← refuse (nat_lt 0 (r.height % pictures_of (interlace_of (interlace_bits r)))) kinds.OddInterlaced 16
  Ok tt

-- the header of the frame that a sample of n bytes begins with, or its first fault; offsets count from the sample's
-- first byte
unfoldable pub header_at : ℕ → List ℕ → Read FrameKind Opened
header_at n s = do
  _ ← refuse (nat_lt n 28) kinds.FrameShort 0
  _ ← size_fault n (start_of s)
  _ ← form_fault (start_of s)
  Ok (opened_of s, record { place = (opened_of s).taken; bytes = drop (opened_of s).taken s })

-- ---- what is read and written

-- sizes without fault, in a sample of n bytes
pub record HasSizes (n : ℕ) (r : Start) : Type 0 where
  pub least : 28 ≤ r.size
  pub most : r.size ≤ n
  pub header : 20 + matrices_size r ≤ r.header
  pub within : 8 + r.header ≤ r.size

-- a version and a form without fault
pub record HasForm (r : Start) : Type 0 where
  pub version : r.version ≤ 1
  pub some_columns : 0 < r.width
  pub some_rows : 0 < r.height
  pub columns : r.width ≤ MAX_WIDTH
  pub rows : r.height ≤ MAX_HEIGHT
  pub whole : r.height % pictures_of (interlace_of (interlace_bits r)) ≡ 0

-- a size without fault
pub record HasLayoutSize (h : FrameHeader) : Type 0 where
  pub some_columns : 0 < h.width
  pub some_rows : 0 < h.height
  pub columns : h.width ≤ MAX_WIDTH
  pub rows : h.height ≤ MAX_HEIGHT
  pub whole : h.height % pictures_of h.interlace ≡ 0

-- a header without fault
pub record IsHeader (h : FrameHeader) : Type 0 where
  pub version : h.version ≤ 1
  pub encoder : length h.encoder ≡ 4
  pub layout : HasLayoutSize h
  pub aspect : h.aspect < 16
  pub rate : h.rate < 16
  pub luma : length h.luma ≡ 64
  pub chroma_weights : length h.chroma_weights ≡ 64

-- the canonical header of a frame of this size: both matrices are loaded, reserved bits are 0
unfoldable pub frame_header_bytes : FrameHeader → ℕ → List ℕ
frame_header_bytes h size =
    to_be_bytes w32 size ++ to_be_bytes w32 icpf ++ to_be_bytes w16 148 ++ (0 ∷ h.version ∷ []) ++ h.encoder ++ to_be_bytes w16 h.width ++ to_be_bytes w16 h.height
    ++ ((chroma_code h.chroma * 64 + interlace_code h.interlace * 4) ∷ (h.aspect * 16 + h.rate) ∷ h.primaries ∷ h.transfer ∷ h.matrix ∷ alpha_code h.alpha ∷ 0 ∷ 3 ∷ [])
    ++ h.luma ++ h.chroma_weights
