-- The header of a picture and the table of its slices' sizes (SMPTE RDD 36, picture header and slice table).
use Rattle.std.specs.Prelude.{ℕ, zero, suc, ◌+◌, ◌*◌, ◌/◌, ◌%◌, ◌≤◌, nat_lt, List, [], ◌∷◌, ◌++◌, length, drop, sum, Result, Ok}
use Rattle.std.specs.Int.{w16, w32, to_be_bytes}
use Rattle.pw_outside.specs.Reading.{Fault, Rest, Read, ◌>>=◌, refuse}
use Rattle.pr_geom.specs.declared.places.TheConstants.{MAX_SLICES}
use Rattle.pr_geom.specs.Faults.{slice_count}
use Rattle.pr_head.specs.declared.fault.FrameKind.{FrameKind}
use Rattle.pr_head.specs.declared.fault.FrameKind.TheVariants as kinds
use Rattle.pr_head.specs.declared.frame.FrameHeader.{FrameHeader}
use Rattle.pr_head.specs.declared.picture.PictureHeader.{PictureHeader}
use Rattle.pr_head.specs.Bytes.{byte, number16, number32}

-- the fields by their offsets: the header's size, the picture's size with header and table, and the binary
-- logarithm of a slice's desired width; the deprecated number of slices and reserved bits are skipped
unfoldable pub picture_of : List ℕ → PictureHeader
picture_of s = record {
  header = byte s 0 / 8;
  size = number32 s 1;
  log2 = byte s 7 / 16 % 4;
}

-- the number of slices of a picture of the frame
abbrev pub slices_in : FrameHeader → PictureHeader → ℕ
slices_in h r = slice_count h.width h.height r.log2 h.interlace

-- the first fault of a picture at an offset of a frame of F bytes (our own order)
unfoldable pub picture_fault : ℕ → FrameHeader → ℕ → PictureHeader → Result (Unit {0}) (Fault FrameKind)
picture_fault F h at r = do
  _ ← refuse (nat_lt r.header 8) kinds.PictureHeader at
  _ ← refuse (nat_lt r.size r.header) kinds.PictureHeader at
  _ ← refuse (nat_lt F (at + r.size)) kinds.PictureHeader at
  _ ← refuse (nat_lt MAX_SLICES (slices_in h r)) kinds.TooManySlices at
  Ok tt

-- the header of the picture that begins here, in a frame of F bytes with this header, or its first fault
unfoldable pub picture_at : ℕ → FrameHeader → Rest → Read FrameKind PictureHeader
picture_at F h s = do
  _ ← refuse (nat_lt F (s.place + 8)) kinds.PictureHeader s.place
  _ ← picture_fault F h s.place (picture_of s.bytes)
  Ok (picture_of s.bytes, record { place = s.place + (picture_of s.bytes).header; bytes = drop (picture_of s.bytes).header s.bytes })

-- the sizes of n slices, in order
unfoldable pub sizes_of : ℕ → List ℕ → List ℕ
sizes_of zero s = []
sizes_of (suc slices) s = number16 s 0 ∷ sizes_of slices (drop 2 s)

-- the number of bytes of the header, the table and slices of these sizes
abbrev pub picture_size : PictureHeader → List ℕ → ℕ
picture_size r sizes = r.header + 2 * length sizes + sum sizes

-- the table of n slices that begins here, after the picture's header, or its first fault
unfoldable pub table_at : PictureHeader → ℕ → Rest → Read FrameKind (List ℕ)
table_at r slices s = do
  _ ← refuse (nat_lt r.size (r.header + 2 * slices)) kinds.SliceTable s.place
  _ ← refuse (nat_lt r.size (r.header + 2 * slices + sum (sizes_of slices s.bytes))) kinds.SliceTable s.place
  Ok (sizes_of slices s.bytes, record { place = s.place + 2 * slices; bytes = drop (2 * slices) s.bytes })

-- a picture header without fault
pub record IsPicture (r : PictureHeader) : Type 0 where
  pub least : 8 ≤ r.header
  pub most : r.header ≤ 31
  pub whole : r.header ≤ r.size
  pub log2 : r.log2 ≤ 3

-- the canonical header of a picture: 8 bytes, the number of slices in its deprecated field, reserved bits 0
unfoldable pub picture_header_bytes : ℕ → ℕ → ℕ → List ℕ
picture_header_bytes size slices log2 = (64 ∷ []) ++ to_be_bytes w32 size ++ to_be_bytes w16 slices ++ ((log2 * 16) ∷ [])
