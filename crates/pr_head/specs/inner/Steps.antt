-- Reading step by step, as the calls of this crate do. A source that ends too early has a fault of its own here;
-- under the conditions of the calls none does, and these steps are then the definitions by offsets.
use Rattle.std.specs.Prelude.{ℕ, zero, suc, ◌+◌, ◌-◌, ◌*◌, ◌/◌, Bool, nat_lt, if◌then◌else◌, List, [], ◌∷◌, length, take, drop, replicate, sum, Ok}
use Rattle.pw_outside.specs.Reading.{Rest, Read, ◌>>=◌, bad, refuse}
use Rattle.pr_head.specs.declared.fault.FrameKind.{FrameKind}
use Rattle.pr_head.specs.declared.fault.FrameKind.TheVariants as kinds
use Rattle.pr_head.specs.declared.frame.FrameHeader.{FrameHeader}
use Rattle.pr_head.specs.declared.start.Start.{Start}
use Rattle.pr_head.specs.declared.picture.PictureHeader.{PictureHeader}
use Rattle.pr_head.specs.declared.slice.SliceHeader.{SliceHeader}
use Rattle.pr_head.specs.Bytes.{byte, number16}
use Rattle.pr_head.specs.Header.{Opened, start_of, loads_luma, loads_chroma, matrices_size, header_of, size_fault, form_fault}
use Rattle.pr_head.specs.Picture.{picture_of, picture_fault}
use Rattle.pr_head.specs.Slice.{least_slice_header, with_last, slice_fault}

-- the next n bytes, or this fault if fewer are left
abbrev pub piece_at : FrameKind → ℕ → ℕ → Rest → Read FrameKind (List ℕ)
piece_at kind at n s = if nat_lt (length s.bytes) n then bad kind at
    else Ok (take n s.bytes, record { place = s.place + n; bytes = drop n s.bytes })

-- n bytes are skipped
unfoldable pub passed : FrameKind → ℕ → ℕ → Rest → Read FrameKind (Unit {0})
passed kind at n s = if nat_lt (length s.bytes) n then bad kind at
    else Ok (tt, record { place = s.place + n; bytes = drop n s.bytes })

-- ---- the frame

-- a matrix if it is loaded, and the other one else
unfoldable pub matrix_in : Bool → List ℕ → Rest → Read FrameKind (List ℕ)
matrix_in loaded other s = if loaded then piece_at kinds.FrameSize 0 64 s else Ok (other, s)

-- the fields of the first 28 bytes
unfoldable pub start_in : ℕ → Rest → Read FrameKind Start
start_in n s = do
  _ ← refuse (nat_lt n 28) kinds.FrameShort 0
  bytes ← piece_at kinds.FrameShort 0 28 s
  _ ← size_fault n (start_of bytes.0)
  _ ← form_fault (start_of bytes.0)
  Ok (start_of bytes.0, bytes.1)

-- both matrices, and the spare bytes after them
unfoldable pub matrices_in : Start → Rest → Read FrameKind (List ℕ × List ℕ)
matrices_in r s = do
  luma ← matrix_in (loads_luma r) (replicate 64 4) s
  chroma ← matrix_in (loads_chroma r) luma.0 luma.1
  spare ← passed kinds.FrameSize 0 (r.header - (20 + matrices_size r)) chroma.1
  Ok ((luma.0, chroma.0), spare.1)

unfoldable pub header_in : ℕ → Rest → Read FrameKind Opened
header_in n s = do
  start ← start_in n s
  weights ← matrices_in start.0 start.1
  Ok (record { header = header_of start.0 weights.0.0 weights.0.1; taken = 8 + start.0.header; size = start.0.size }, weights.1)

-- ---- a picture

unfoldable pub picture_in : ℕ → FrameHeader → Rest → Read FrameKind PictureHeader
picture_in F h s = do
  _ ← refuse (nat_lt F (s.place + 8)) kinds.PictureHeader s.place
  fields ← piece_at kinds.PictureHeader s.place 8 s
  _ ← picture_fault F h s.place (picture_of fields.0)
  spare ← passed kinds.PictureHeader s.place ((picture_of fields.0).header - 8) fields.1
  Ok (picture_of fields.0, spare.1)

-- a size of two bytes
unfoldable pub size_in : ℕ → Rest → Read FrameKind ℕ
size_in at s = do
  two ← piece_at kinds.SliceTable at 2 s
  Ok (number16 two.0 0, two.1)

unfoldable pub sizes_in : ℕ → ℕ → Rest → Read FrameKind (List ℕ)
sizes_in at zero s = Ok ([], s)
sizes_in at (suc slices) s = do
  first ← size_in at s
  others ← sizes_in at slices first.1
  Ok (first.0 ∷ others.0, others.1)

unfoldable pub table_in : PictureHeader → ℕ → Rest → Read FrameKind (List ℕ)
table_in r slices s = do
  _ ← refuse (nat_lt r.size (r.header + 2 * slices)) kinds.SliceTable s.place
  sizes ← sizes_in s.place slices s
  _ ← refuse (nat_lt r.size (r.header + 2 * slices + sum sizes.0)) kinds.SliceTable s.place
  Ok sizes

-- ---- a slice

-- the stated fields: the first six bytes, and the two of Cr
unfoldable pub stated_in : List ℕ → List ℕ → SliceHeader
stated_in fields cr = record {
  header = byte fields 0 / 8;
  index = byte fields 1;
  y = number16 fields 2;
  cb = number16 fields 4;
  cr = number16 cr 0;
  alpha = 0;
}

-- the two bytes of Cr if it is stated, and zeros else
unfoldable pub cr_in : ℕ → Bool → Rest → Read FrameKind (List ℕ)
cr_in at stated s = if stated then piece_at kinds.SliceHeader at 2 s else Ok (replicate 2 0, s)

unfoldable pub slice_in : ℕ → Bool → Rest → Read FrameKind SliceHeader
slice_in size alpha s = do
  _ ← refuse (nat_lt size (least_slice_header alpha)) kinds.SliceHeader s.place
  fields ← piece_at kinds.SliceHeader s.place 6 s
  cr ← cr_in s.place alpha fields.1
  _ ← slice_fault size alpha s.place (stated_in fields.0 cr.0)
  spare ← passed kinds.SliceHeader s.place ((stated_in fields.0 cr.0).header - least_slice_header alpha) cr.1
  Ok (with_last size alpha (stated_in fields.0 cr.0), spare.1)
