-- Frames of a Y4M input (yuv4mpeg(5), frames), and their pictures.
use Rattle.std.specs.Prelude.{◌≡◌, ℕ, zero, suc, ◌+◌, ◌-◌, ◌*◌, ◌/◌, ◌<◌, ◌≤◌, ◌^◌, Bool, true, false, not, ◌==◌, nat_eq, if◌then◌else◌, List, [], ◌∷◌, length, slice_index, Option, None, Some, Result, Ok, Err, is_some, codes}
use Rattle.std.specs.List.{starts_with, All}
use Rattle.pw_outside.specs.Reading.{Fault, Rest, Read, ◌>>=◌, bad, refuse}
use Rattle.pw_planes.specs.declared.kinds.AlphaKind.{AlphaKind}
use Rattle.pw_planes.specs.declared.kinds.AlphaKind.TheVariants.{Absent, Eight, Sixteen}
use Rattle.pw_planes.specs.declared.kinds.Depth.{Depth}
use Rattle.pw_planes.specs.declared.picture.Picture.{Picture}
use Rattle.pw_planes.specs.Picture.{HasSize}
use Rattle.pw_planes.specs.Plane.{Raster}
use Rattle.pw_planes.specs.Rows.{raster}
use Rattle.pw_planes.specs.Samples.{sample_bits, chroma_width}
use Rattle.pic_y4m.specs.declared.fault.PictureKind.{PictureKind}
use Rattle.pic_y4m.specs.declared.fault.PictureKind.TheVariants as kinds
use Rattle.pic_y4m.specs.declared.head.Head.{Head}
use Rattle.pic_y4m.specs.declared.head.TheConstants.{MAX_FRAMES}
use Rattle.pic_y4m.specs.declared.head_line.Stream.{Stream}
use Rattle.pic_y4m.specs.HeadLine.{IsStream, stream_at}
use Rattle.pic_y4m.specs.Line.{next_line}
use Rattle.pic_y4m.specs.Samples.{size_of, samples_at, in_range}

-- ---- pictures

-- the number of stored chroma rows: one for two luma rows if these share it
abbrev pub chroma_rows : Bool → ℕ → ℕ
chroma_rows shares height = if shares then (height + 1) / 2 else height

-- the samples of a chroma plane of the picture: if rows are shared, row y is the stored row y / 2
abbrev pub chroma_samples : Bool → ℕ → ℕ → List ℕ → List ℕ
chroma_samples shares width height stored = if shares then raster width height (λ column row. slice_index stored (row / 2 * width + column)) else stored

abbrev pub chroma_plane : Bool → ℕ → ℕ → List ℕ → Raster
chroma_plane shares width height stored = record { width = width; height = height; samples = chroma_samples shares width height stored }

-- the picture with these three stored planes
abbrev pub picture_of : Stream → List ℕ → List ℕ → List ℕ → Picture
picture_of form y cb cr = record {
  y = record { width = form.head.width; height = form.head.height; samples = y };
  cb = chroma_plane form.shares_rows (chroma_width form.head.chroma form.head.width) form.head.height cb;
  cr = chroma_plane form.shares_rows (chroma_width form.head.chroma form.head.width) form.head.height cr;
  alpha = None;
  chroma = form.head.chroma;
  depth = form.head.depth;
}

-- the number of stored samples of luma, and of each chroma plane
abbrev pub luma_count : Stream → ℕ
luma_count form = form.head.height * form.head.width

abbrev pub chroma_count : Stream → ℕ
chroma_count form = chroma_rows form.shares_rows form.head.height * chroma_width form.head.chroma form.head.width

-- the planes of a frame, Y, Cb and Cr; their samples are validated after all are read
unfoldable pub planes_at : Stream → Rest → Read PictureKind Picture
planes_at form s = do
  y ← samples_at (size_of form.head.depth) (luma_count form) s
  cb ← samples_at (size_of form.head.depth) (chroma_count form) y.1
  cr ← samples_at (size_of form.head.depth) (chroma_count form) cb.1
  _ ← in_range (size_of form.head.depth) (2 ^ sample_bits form.head.depth) y.0 s.place
  _ ← in_range (size_of form.head.depth) (2 ^ sample_bits form.head.depth) cb.0 y.1.place
  _ ← in_range (size_of form.head.depth) (2 ^ sample_bits form.head.depth) cr.0 cb.1.place
  Ok (picture_of form y.0 cb.0 cr.0, cr.1)

-- a line begins with the word FRAME
abbrev pub begins_frame : List ℕ → Bool
begins_frame line = starts_with nat_eq line (codes "FRAME")

-- the frame after its line, which begins at this offset; `None` if there is no line
abbrev pub frame_behind : Stream → ℕ → Option (List ℕ) → Rest → Read PictureKind (Option Picture)
frame_behind form place None s = Ok (None, s)
frame_behind form place (Some line) s = do
  _ ← refuse (not (begins_frame line)) kinds.FrameLine place
  picture ← planes_at form s
  Ok (Some picture.0, picture.1)

-- The next frame: a line of at most 256 bytes that begins with the word FRAME, and the planes; `None` at the end of
-- the input.
unfoldable pub frame_at : Stream → Rest → Read PictureKind (Option Picture)
frame_at form s = do
  line ← next_line 256 kinds.FrameLine s.place s
  frame_behind form s.place line.0 line.1

-- ---- pictures of a form

abbrev pub has_alpha : AlphaKind → Bool
has_alpha Absent = false
has_alpha Eight = true
has_alpha Sixteen = true

-- each sample is below 2 to the bit depth
abbrev pub AreBelow : Depth → List ℕ → Type 0
AreBelow depth samples = All (λ s. s < 2 ^ sample_bits depth) samples

-- a picture of a form: its planes have the right sizes, and its samples are below 2 to the bit depth
pub record HasForm (h : Head) (p : Picture) : Type 0 where
  pub size : HasSize p h.width h.height
  pub chroma : p.chroma ≡ h.chroma
  pub depth : p.depth ≡ h.depth
  pub alpha : is_some p.alpha ≡ has_alpha h.alpha
  pub luma : AreBelow h.depth p.y.samples
  pub cb : AreBelow h.depth p.cb.samples
  pub cr : AreBelow h.depth p.cr.samples

-- ---- the pictures that remain for a reader

-- the form of all pictures, the number of frames read so far, and the offset after them
pub record State : Type 0 where
  pub form : Stream
  pub frames : ℕ
  pub place : ℕ

-- before the first frame
abbrev pub started : Stream → ℕ → State
started form place = record { form = form; frames = 0; place = place }

-- after one more frame, which ends at this offset
abbrev pub advanced : State → ℕ → State
advanced r place = record r { frames = r.frames + 1; place = place }

-- the reader of a head line
unfoldable pub start_at : Rest → Read PictureKind State
start_at s = do
  stream ← stream_at s
  Ok (started stream.0 stream.1.place, stream.1)

-- the next picture, or `None` at the end of the input; after `MAX_FRAMES` frames a further byte is a fault
unfoldable pub next_at : State → Rest → Read PictureKind (Option Picture)
next_at r s = if r.frames == MAX_FRAMES then (if length s.bytes == 0 then Ok (None, s) else bad kinds.TooManyFrames s.place) else frame_at r.form s

-- pictures, and the fault that ends them, if there is one
pub record Pictures : Type 0 where
  pub pictures : List Picture
  pub fault : Option (Fault PictureKind)

-- the next picture, and then those of the rest
abbrev pub first_and : Read PictureKind (Option Picture) → (Rest → Pictures) → Pictures
first_and (Err fault) others = record { pictures = []; fault = Some fault }
first_and (Ok (None, rest)) others = record { pictures = []; fault = None }
first_and (Ok (Some picture, rest)) others = record (others rest) { pictures = picture ∷ (others rest).pictures }

-- at most `n` of the pictures that remain for a reader
unfoldable pub pictures_in : ℕ → State → Rest → Pictures
pictures_in zero r s = record { pictures = []; fault = None }
pictures_in (suc n) r s = first_and (next_at r s) (λ rest. pictures_in n (advanced r rest.place) rest)

-- All pictures that remain for a reader. One call more than the maximum number of frames reaches the end, or the
-- fault.
unfoldable pub pictures_left : State → Rest → Pictures
pictures_left r s = pictures_in (MAX_FRAMES + 1 - r.frames) r s

-- The meaning of an input: the form and the pictures up to the end or the first fault; or the first fault of the
-- head line.
unfoldable pub pictured : List ℕ → Result (Head × Pictures) (Fault PictureKind)
pictured bytes = do
  start ← start_at (record { place = 0; bytes = bytes })
  Ok (start.0.form.head, pictures_left start.0 start.1)

-- the reader's invariant
pub record IsState (r : State) : Type 0 where
  pub form : IsStream r.form
  pub few : r.frames ≤ MAX_FRAMES
  pub place : r.place ≤ 1024 + r.frames * 2 ^ 28

-- the offset after what was read, if something was
abbrev pub place_after : {E : Type 0} → Result State E → ℕ
place_after (Ok r) = r.place
place_after (Err _) = 0

-- The reader after a call: one more frame after a picture, and otherwise unchanged.
abbrev pub IsAfter : {E : Type 0} → State → State → Result (Option Picture) E → Type 0
IsAfter old new (Ok (Some _)) = new ≡ advanced old new.place
IsAfter old new (Ok None) = new ≡ old
IsAfter old new (Err _) = new ≡ old

-- The pictures that remain are the next picture and those that remain after it.
abbrev pub NextIsFirst : Type 0
NextIsFirst = (r : State) (s : Rest) → r.frames ≤ MAX_FRAMES → pictures_left r s ≡ first_and (next_at r s) (λ rest. pictures_left (advanced r rest.place) rest)
