-- A reader of pictures of any format, and the meaning of an input.
use Rattle.std.specs.Prelude.{◌≡◌, ℕ, ◌+◌, ◌≤◌, List, length, Option, None, Some, Result, Ok, Err}
use Rattle.std.specs.List.{All}
use Rattle.pw_outside.specs.Reading.{Fault, Rest, Read, ◌>>=◌}
use Rattle.pw_planes.specs.declared.picture.Picture.{Picture}
use Rattle.pic_y4m.specs.declared.fault.PictureKind.{PictureKind}
use Rattle.pic_y4m.specs.declared.head.Head.{Head}
use Rattle.pic_y4m.specs.declared.head.TheConstants.{MAX_FRAMES}
use Rattle.pic_y4m.specs.Frames as y4m
use Rattle.pic_y4m.specs.Frames.{Pictures, first_and, pictured}
use Rattle.pic_raw.specs.Raw as raw
use Rattle.pic_raw.specs.Raw.{IsPicture}
use Rattle.pic_raw.specs.Writing.{AreWhole, frames_bytes}
use Rattle.pic_raw.specs.declared.any.AnyReader.{AnyReader}
use Rattle.pic_raw.specs.declared.any.AnyReader.TheVariants.{Y4m, Raw}

-- the form of all pictures
abbrev pub head_of : AnyReader → Head
head_of (Y4m r) = r.form.head
head_of (Raw r) = r.head

-- the number of frames read so far
abbrev pub frames_of : AnyReader → ℕ
frames_of (Y4m r) = r.frames
frames_of (Raw r) = r.frames

-- the offset after them
abbrev pub place_of : AnyReader → ℕ
place_of (Y4m r) = r.place
place_of (Raw r) = r.place

-- the reader's invariant
abbrev pub IsReader : AnyReader → Type 0
IsReader (Y4m r) = y4m.IsState r
IsReader (Raw r) = raw.IsState r

-- after one more frame, which ends at this offset
abbrev pub advanced : AnyReader → ℕ → AnyReader
advanced (Y4m r) place = Y4m (y4m.advanced r place)
advanced (Raw r) place = Raw (raw.advanced r place)

-- the next picture, or `None` at the end of the input
abbrev pub next_of : AnyReader → Rest → Read PictureKind (Option Picture)
next_of (Y4m r) s = y4m.next_at r s
next_of (Raw r) s = raw.next_at r s

-- all pictures that remain for a reader, and the fault that ends them, if there is one
abbrev pub left_of : AnyReader → Rest → Pictures
left_of (Y4m r) s = y4m.pictures_left r s
left_of (Raw r) s = raw.pictures_left r s

-- The reader of an input: of raw planar pictures if their form is given, otherwise of Y4M.
abbrev pub start_of : Option Head → Rest → Read PictureKind AnyReader
start_of (Some head) s = Ok (Raw (raw.started head), s)
start_of None s = do
  r ← y4m.start_at s
  Ok (Y4m r.0, r.1)

-- The meaning of an input: the form and the pictures up to the end or the first fault; or the first fault of the
-- head line. The form of raw planar pictures is given; without one the input is Y4M.
unfoldable pub pictures_of : Option Head → List ℕ → Result (Head × Pictures) (Fault PictureKind)
pictures_of form bytes = do
  start ← start_of form (record { place = 0; bytes = bytes })
  Ok (head_of start.0, left_of start.0 start.1)

-- The reader after a call: one more frame after a picture, and otherwise unchanged.
abbrev pub IsAfter : {E : Type 0} → AnyReader → AnyReader → Result (Option Picture) E → Type 0
IsAfter old new (Ok (Some _)) = new ≡ advanced old (place_of new)
IsAfter old new (Ok None) = new ≡ old
IsAfter old new (Err _) = new ≡ old

-- the offset after what was read, if something was
abbrev pub place_after : {E : Type 0} → Result AnyReader E → ℕ
place_after (Ok r) = place_of r
place_after (Err _) = 0

-- ---- laws

-- The pictures that remain are the next picture and those that remain after it.
abbrev pub NextIsFirst : Type 0
NextIsFirst = (r : AnyReader) (s : Rest) → frames_of r ≤ MAX_FRAMES → left_of r s ≡ first_and (next_of r s) (λ rest. left_of (advanced r rest.place) rest)

-- The pictures that remain for a reader have its head's form; with those read before they are at most `MAX_FRAMES`.
abbrev pub LeftHaveForm : Type 0
LeftHaveForm = (r : AnyReader) (s : Rest) → IsReader r → All (IsPicture (head_of r)) (left_of r s).pictures × (frames_of r + length (left_of r s).pictures ≤ MAX_FRAMES)

-- The pictures of an input have its head's form, and are at most `MAX_FRAMES`.
abbrev pub PicturesHaveForm : Type 0
PicturesHaveForm = (form : Option Head) (bytes : List ℕ) (head : Head) (ps : Pictures) → pictures_of form bytes ≡ Ok (head, ps) → All (IsPicture head) ps.pictures × (length ps.pictures ≤ MAX_FRAMES)

-- Without a form, an input has its meaning as Y4M.
abbrev pub Y4mIsMeant : Type 0
Y4mIsMeant = (bytes : List ℕ) → pictures_of None bytes ≡ pictured bytes

-- Written raw planar pictures mean exactly the pictures that were written.
abbrev pub WrittenIsMeant : Type 0
WrittenIsMeant = (h : Head) (pictures : List Picture) → length pictures ≤ MAX_FRAMES → AreWhole h pictures
    → pictures_of (Some h) (frames_bytes pictures) ≡ Ok (h, record { pictures = pictures; fault = None })
