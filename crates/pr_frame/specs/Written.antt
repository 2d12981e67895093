-- The canonical bytes of a coded frame, and their number (SMPTE RDD 36, frame syntax; the choices that the syntax
-- leaves open are our own: both matrices, the shortest headers, nothing after the slices and after the pictures).
use Rattle.std.specs.Prelude.{ℕ, ◌+◌, ◌*◌, List, [], length, map, sum, ◌++◌}
use Rattle.std.specs.List.{flat_map}
use Rattle.pw_planes.specs.declared.kinds.AlphaKind.{AlphaKind}
use Rattle.pw_planes.specs.declared.kinds.AlphaKind.TheVariants.{Absent, Eight, Sixteen}
use Rattle.pw_planes.specs.declared.kinds.Interlace.{Interlace}
use Rattle.pr_alpha.specs.Alpha as values
use Rattle.pr_coeff.specs.Component.{Block, component}
use Rattle.pr_head.specs.declared.slice.SliceHeader.{SliceHeader}
use Rattle.pr_head.specs.Header.{frame_header_bytes}
use Rattle.pr_head.specs.Picture.{picture_header_bytes}
use Rattle.pr_head.specs.Slice.{least_slice_header, slice_header_bytes}
use Rattle.pr_head.specs.Laws.{sizes_bytes}
use Rattle.pr_frame.specs.declared.coded.CodedSlice.{CodedSlice}
use Rattle.pr_frame.specs.declared.coded.CodedPicture.{CodedPicture}
use Rattle.pr_frame.specs.declared.coded.CodedFrame.{CodedFrame}
use Rattle.pr_frame.specs.Forms.{scan_of, has_alpha}

-- ---- a slice

-- the bytes of a component in a frame of this interlace mode
abbrev pub component_bytes : Interlace → List Block → List ℕ
component_bytes mode blocks = component (scan_of mode) blocks

-- the bytes of alpha values; none in a frame without alpha
abbrev pub alpha_bytes : AlphaKind → List ℕ → List ℕ
alpha_bytes Absent l = []
alpha_bytes Eight l = values.alpha 8 l
alpha_bytes Sixteen l = values.alpha 16 l

-- the number of bytes of alpha values
abbrev pub alpha_size : AlphaKind → List ℕ → ℕ
alpha_size alpha l = length (alpha_bytes alpha l)

-- a number of bytes, with those of alpha values after them
abbrev pub with_alpha_size : AlphaKind → List ℕ → ℕ → ℕ
with_alpha_size Absent l n = n
with_alpha_size Eight l n = n + length (values.alpha 8 l)
with_alpha_size Sixteen l n = n + length (values.alpha 16 l)

-- the header of a slice, with the sizes of its components
abbrev pub slice_header_of : Interlace → AlphaKind → CodedSlice → SliceHeader
slice_header_of mode alpha s = record {
  header = least_slice_header (has_alpha alpha);
  index = s.index;
  y = length (component_bytes mode s.y);
  cb = length (component_bytes mode s.cb);
  cr = length (component_bytes mode s.cr);
  alpha = alpha_size alpha s.alpha;
}

-- the bytes of a slice: its header, luma, Cb, Cr and alpha
unfoldable pub slice_bytes : Interlace → AlphaKind → CodedSlice → List ℕ
slice_bytes mode alpha s =
    slice_header_bytes (slice_header_of mode alpha s) (has_alpha alpha)
    ++ component_bytes mode s.y ++ component_bytes mode s.cb ++ component_bytes mode s.cr
    ++ alpha_bytes alpha s.alpha

-- the number of bytes of a slice
abbrev pub slice_length : Interlace → AlphaKind → CodedSlice → ℕ
slice_length mode alpha s = with_alpha_size alpha s.alpha
    (least_slice_header (has_alpha alpha)
    + length (component_bytes mode s.y) + length (component_bytes mode s.cb) + length (component_bytes mode s.cr))

-- ---- a picture

-- the number of bytes of each slice of a picture
abbrev pub slice_lengths : Interlace → AlphaKind → CodedPicture → List ℕ
slice_lengths mode alpha x = map (slice_length mode alpha) x.slices

-- the number of bytes of a picture: its header of 8 bytes, two bytes a slice in its table, and its slices
abbrev pub picture_length : Interlace → AlphaKind → CodedPicture → ℕ
picture_length mode alpha x = 8 + 2 * length x.slices + sum (slice_lengths mode alpha x)

-- the bytes of a picture: its header, the table of the slices' sizes, and the slices
unfoldable pub picture_bytes : Interlace → AlphaKind → CodedPicture → List ℕ
picture_bytes mode alpha x =
    picture_header_bytes (picture_length mode alpha x) (length x.slices) x.log2
    ++ sizes_bytes (slice_lengths mode alpha x)
    ++ flat_map (slice_bytes mode alpha) x.slices

-- ---- a frame

-- the number of bytes of a frame: its header of 156 bytes, and its pictures
abbrev pub frame_length_of : CodedFrame → ℕ
frame_length_of f = 156 + sum (map (picture_length f.header.interlace f.header.alpha) f.pictures)

-- the bytes of a frame
unfoldable pub coded_bytes : CodedFrame → List ℕ
coded_bytes f = frame_header_bytes f.header (frame_length_of f) ++ flat_map (picture_bytes f.header.interlace f.header.alpha) f.pictures
