-- Written pictures (yuv4mpeg(5)): one spelling for each head and each picture.
use Rattle.std.specs.Prelude.{◌≡◌, ℕ, ◌<◌, ◌≤◌, ◌+◌, Bool, true, false, List, [], ◌∷◌, ◌++◌, length, None, Some, Result, Ok, Err, codes}
use Rattle.std.specs.Fmt.{decimal}
use Rattle.std.specs.List.{flat_map}
use Rattle.pw_outside.specs.Writing.{SinkState, Puts, PutsPart}
use Rattle.pw_planes.specs.declared.kinds.Chroma.{Chroma}
use Rattle.pw_planes.specs.declared.kinds.Chroma.TheVariants.{C422, C444}
use Rattle.pw_planes.specs.declared.kinds.Depth.{Depth}
use Rattle.pw_planes.specs.declared.kinds.Depth.TheVariants.{D8, D10, D12}
use Rattle.pw_planes.specs.declared.kinds.Interlace.{Interlace}
use Rattle.pw_planes.specs.declared.kinds.Interlace.TheVariants.{Progressive, TopFirst, BottomFirst}
use Rattle.pw_planes.specs.declared.picture.Picture.{Picture}
use Rattle.pw_planes.specs.Plane.{IsPlane}
use Rattle.pic_y4m.specs.declared.head.Head.{Head}
use Rattle.pic_y4m.specs.declared.head.TheConstants.{MAX_FRAMES}
use Rattle.pic_y4m.specs.declared.writer.WriteEnd.{WriteEnd}
use Rattle.pic_y4m.specs.declared.writer.WriteEnd.TheVariants as ends
use Rattle.pic_y4m.specs.Frames.{State, HasForm, started, start_at, next_at, pictures_left, pictured}
use Rattle.pic_y4m.specs.HeadLine.{IsHead}
use Rattle.pic_y4m.specs.Samples.{size_of, plane_bytes}
use Rattle.pw_planes.specs.declared.kinds.AlphaKind.TheVariants.{Absent}

-- the letter of the parameter I
abbrev pub mode_text : Interlace → List ℕ
mode_text Progressive = codes "p"
mode_text TopFirst = codes "t"
mode_text BottomFirst = codes "b"

-- the tag of the parameter C: the subsampling, followed by the bit depth unless it is 8
abbrev pub sampling_text : Chroma → List ℕ
sampling_text C422 = codes "422"
sampling_text C444 = codes "444"

abbrev pub depth_text : Depth → List ℕ
depth_text D8 = []
depth_text D10 = codes "p10"
depth_text D12 = codes "p12"

-- the head line
unfoldable pub head_bytes : Head → List ℕ
head_bytes h = codes "YUV4MPEG2 W" ++ decimal h.width ++ codes " H" ++ decimal h.height ++ codes " F" ++ decimal h.num ++ codes ":" ++ decimal h.den
    ++ codes " I" ++ mode_text h.interlace ++ codes " C" ++ sampling_text h.chroma ++ depth_text h.depth ++ codes "\n"

-- a frame: its line, and the planes Y, Cb and Cr
unfoldable pub frame_bytes : Depth → Picture → List ℕ
frame_bytes depth p = codes "FRAME\n" ++ plane_bytes (size_of depth) p.y.samples ++ plane_bytes (size_of depth) p.cb.samples ++ plane_bytes (size_of depth) p.cr.samples

-- The sink received the whole text, or after a failure a proper prefix, or nothing if memory ran out.
abbrev pub Writes : {X : Type 0} → Result X WriteEnd → SinkState → SinkState → List ℕ → Type 0
Writes (Ok _) before after text = Puts before after text
Writes (Err ends.Failed) before after text = PutsPart before after text
Writes (Err ends.NoMemory) before after text = Puts before after []

-- whether the sink failed
abbrev pub write_failed : {X : Type 0} → Result X WriteEnd → Bool
write_failed (Err ends.Failed) = true
write_failed _ = false

-- a picture that a writer of this form writes in full: no alpha, and well-formed planes
pub record IsWhole (h : Head) (p : Picture) : Type 0 where
  pub form : HasForm h p
  pub alpha : p.alpha ≡ None
  pub luma : IsPlane p.y
  pub cb : IsPlane p.cb
  pub cr : IsPlane p.cr

-- A written picture is read back: a reader of its form returns it, and continues after it.
abbrev pub WrittenIsRead : Type 0
WrittenIsRead = (r : State) (p : Picture) (rest : List ℕ) → r.form.shares_rows ≡ false → r.frames < MAX_FRAMES → IsWhole r.form.head p
    → next_at r (record { place = r.place; bytes = frame_bytes r.form.head.depth p ++ rest })
    ≡ Ok (Some p, record { place = r.place + length (frame_bytes r.form.head.depth p); bytes = rest })

-- the frames of these pictures
abbrev pub frames_bytes : Depth → List Picture → List ℕ
frames_bytes depth pictures = flat_map (frame_bytes depth) pictures

-- each of the pictures is whole
abbrev pub AreWhole : Head → List Picture → Type 0
AreWhole h [] = Unit {0}
AreWhole h (p ∷ ps) = IsWhole h p × AreWhole h ps

-- A reader returns exactly the written pictures, and then the end.
abbrev pub PicturesAreRead : Type 0
PicturesAreRead = (r : State) (pictures : List Picture) → r.form.shares_rows ≡ false → r.frames + length pictures ≤ MAX_FRAMES → AreWhole r.form.head pictures
    → pictures_left r (record { place = r.place; bytes = frames_bytes r.form.head.depth pictures }) ≡ record { pictures = pictures; fault = None }

-- A written head line is read back: a reader of that head starts after it.
abbrev pub HeadIsRead : Type 0
HeadIsRead = (h : Head) (rest : List ℕ) → IsHead h → h.alpha ≡ Absent
    → start_at (record { place = 0; bytes = head_bytes h ++ rest })
    ≡ Ok (started (record { head = h; shares_rows = false }) (length (head_bytes h)), record { place = length (head_bytes h); bytes = rest })

-- A written input means the head and the pictures that were written.
abbrev pub WrittenIsMeant : Type 0
WrittenIsMeant = (h : Head) (pictures : List Picture) → IsHead h → h.alpha ≡ Absent → length pictures ≤ MAX_FRAMES → AreWhole h pictures
    → pictured (head_bytes h ++ frames_bytes h.depth pictures) ≡ Ok (h, record { pictures = pictures; fault = None })
