-- Laws: what was written is read again.
use Rattle.std.specs.Prelude.{◌≡◌, ℕ, ◌+◌, ◌*◌, ◌<◌, ◌≤◌, ◌^◌, Bool, if◌then◌else◌, List, ◌++◌, length, Ok}
use Rattle.std.specs.List.{All, flat_map}
use Rattle.std.specs.Int.{w16, to_be_bytes}
use Rattle.pr_geom.specs.declared.places.TheConstants.{MAX_SLICES}
use Rattle.pr_head.specs.declared.frame.FrameHeader.{FrameHeader}
use Rattle.pr_head.specs.declared.picture.PictureHeader.{PictureHeader}
use Rattle.pr_head.specs.declared.slice.SliceHeader.{SliceHeader}
use Rattle.pr_head.specs.Header.{IsHeader, frame_header_bytes, header_at}
use Rattle.pr_head.specs.Picture.{slices_in, picture_header_bytes, picture_at, picture_size, table_at}
use Rattle.pr_head.specs.Slice.{least_slice_header, IsSliceHeader, slice_header_bytes, slice_at}

-- the header of a frame that was written at the start of a sample of n bytes is read again
abbrev pub FrameHeaderIsReadAgain : Type 0
FrameHeaderIsReadAgain = (h : FrameHeader) (size n : ℕ) (rest : List ℕ) → IsHeader h → 156 ≤ size → size ≤ n → size < 2 ^ 32
    → header_at n (frame_header_bytes h size ++ rest) ≡ Ok (record { header = h; taken = 156; size = size }, record { place = 156; bytes = rest })

-- the header of a picture that was written in a frame of F bytes is read again
abbrev pub PictureHeaderIsReadAgain : Type 0
PictureHeaderIsReadAgain = (F at : ℕ) (h : FrameHeader) (size slices log2 : ℕ) (rest : List ℕ)
    → 8 ≤ size → at + size ≤ F → size < 2 ^ 32 → log2 ≤ 3 → slices_in h (record { header = 8; size = size; log2 = log2 }) ≤ MAX_SLICES
    → picture_at F h (record { place = at; bytes = picture_header_bytes size slices log2 ++ rest })
    ≡ Ok (record { header = 8; size = size; log2 = log2 }, record { place = at + 8; bytes = rest })

-- the bytes of sizes, in order
abbrev pub sizes_bytes : List ℕ → List ℕ
sizes_bytes sizes = flat_map (to_be_bytes w16) sizes

-- the table of a picture that was written is read again
abbrev pub SliceSizesAreReadAgain : Type 0
SliceSizesAreReadAgain = (r : PictureHeader) (at : ℕ) (sizes rest : List ℕ) → All (λ size. size < 2 ^ 16) sizes → picture_size r sizes ≤ r.size
    → table_at r (length sizes) (record { place = at; bytes = sizes_bytes sizes ++ rest }) ≡ Ok (sizes, record { place = at + 2 * length sizes; bytes = rest })

-- the header of a slice that was written is read again
abbrev pub SliceHeaderIsReadAgain : Type 0
SliceHeaderIsReadAgain = (size at : ℕ) (alpha : Bool) (r : SliceHeader) (rest : List ℕ) → IsSliceHeader size alpha r → size < 2 ^ 16
    → r.header ≡ least_slice_header alpha → (if alpha then 0 else r.alpha) ≡ 0
    → slice_at size alpha (record { place = at; bytes = slice_header_bytes r alpha ++ rest }) ≡ Ok (r, record { place = at + r.header; bytes = rest })
