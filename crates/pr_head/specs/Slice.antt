-- The header of a slice (SMPTE RDD 36, slice header).
use Rattle.std.specs.Prelude.{◌≡◌, ℕ, ◌+◌, ◌-◌, ◌*◌, ◌/◌, ◌≤◌, Bool, ◌||◌, nat_lt, ◌==◌, if◌then◌else◌, List, [], ◌∷◌, ◌++◌, drop, Result, Ok}
use Rattle.std.specs.Int.{w16, to_be_bytes}
use Rattle.pw_outside.specs.Reading.{Fault, Rest, Read, ◌>>=◌, refuse}
use Rattle.pr_head.specs.declared.fault.FrameKind.{FrameKind}
use Rattle.pr_head.specs.declared.fault.FrameKind.TheVariants as kinds
use Rattle.pr_head.specs.declared.slice.SliceHeader.{SliceHeader}
use Rattle.pr_head.specs.Bytes.{byte, number16}

-- the number of bytes of the fields
abbrev pub least_slice_header : Bool → ℕ
least_slice_header alpha = if alpha then 8 else 6

-- the number of bytes of the header and the components
abbrev pub slice_size : SliceHeader → ℕ
slice_size r = r.header + r.y + r.cb + r.cr + r.alpha

-- the stated fields by their offsets; 0 for the size of the last component, which isn't stated, and of one that
-- isn't there
unfoldable pub stated_of : Bool → List ℕ → SliceHeader
stated_of alpha s = record {
  header = byte s 0 / 8;
  index = byte s 1;
  y = number16 s 2;
  cb = number16 s 4;
  cr = if alpha then number16 s 6 else 0;
  alpha = 0;
}

-- the last component has the rest of a slice of `size` bytes: it is alpha if there is alpha, and Cr else
abbrev pub with_last : ℕ → Bool → SliceHeader → SliceHeader
with_last size alpha r = if alpha then record r { alpha = size - slice_size r } else record r { cr = size - slice_size r }

-- the first fault of a slice of `size` bytes at an offset, with these stated fields (our own order)
unfoldable pub slice_fault : ℕ → Bool → ℕ → SliceHeader → Result (Unit {0}) (Fault FrameKind)
slice_fault size alpha at r = do
  _ ← refuse (nat_lt r.header (least_slice_header alpha)) kinds.SliceHeader at
  _ ← refuse (nat_lt size r.header) kinds.SliceHeader at
  _ ← refuse (r.index == 0 || nat_lt 224 r.index) kinds.QuantIndex (at + 1)
  _ ← refuse (nat_lt size (slice_size r)) kinds.ComponentSize (at + 2)
  Ok tt

-- the header of a slice of `size` bytes that begins here, or its first fault
unfoldable pub slice_at : ℕ → Bool → Rest → Read FrameKind SliceHeader
slice_at size alpha s = do
  _ ← refuse (nat_lt size (least_slice_header alpha)) kinds.SliceHeader s.place
  _ ← slice_fault size alpha s.place (stated_of alpha s.bytes)
  Ok (with_last size alpha (stated_of alpha s.bytes), record { place = s.place + (stated_of alpha s.bytes).header; bytes = drop (stated_of alpha s.bytes).header s.bytes })

-- a header without fault of a slice of `size` bytes
pub record IsSliceHeader (size : ℕ) (alpha : Bool) (r : SliceHeader) : Type 0 where
  pub least : least_slice_header alpha ≤ r.header
  pub most : r.header ≤ 31
  pub index_from : 1 ≤ r.index
  pub index_to : r.index ≤ 224
  pub whole : slice_size r ≡ size

-- the canonical header of a slice: nothing after its fields, reserved bits 0
unfoldable pub slice_header_bytes : SliceHeader → Bool → List ℕ
slice_header_bytes r alpha = ((r.header * 8) ∷ r.index ∷ []) ++ to_be_bytes w16 r.y ++ to_be_bytes w16 r.cb ++ (if alpha then to_be_bytes w16 r.cr else [])
