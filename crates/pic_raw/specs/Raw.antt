-- Raw planar pictures (our own): for each frame the planes Y, Cb, Cr and alpha, with two-byte little-endian
-- samples. There are no heads; the form is given separately.
use Rattle.std.specs.Prelude.{◌≡◌, ℕ, zero, suc, ◌+◌, ◌-◌, ◌*◌, ◌<◌, ◌≤◌, ◌^◌, ◌==◌, if◌then◌else◌, Bool, true, false, List, [], length, Option, None, Some, Result, Ok, Err, IfSome}
use Rattle.std.specs.List.{All}
use Rattle.std.specs.Option.{option_map}
use Rattle.pw_outside.specs.Reading.{Fault, Rest, Read, ◌>>=◌, bad}
use Rattle.pw_planes.specs.declared.kinds.AlphaKind.{AlphaKind}
use Rattle.pw_planes.specs.declared.kinds.AlphaKind.TheVariants.{Absent, Eight, Sixteen}
use Rattle.pw_planes.specs.declared.picture.Picture.{Picture}
use Rattle.pw_planes.specs.Plane.{Raster}
use Rattle.pw_planes.specs.Samples.{sample_bits, chroma_width}
use Rattle.pic_y4m.specs.declared.fault.PictureKind.{PictureKind}
use Rattle.pic_y4m.specs.declared.fault.PictureKind.TheVariants as kinds
use Rattle.pic_y4m.specs.declared.head.Head.{Head}
use Rattle.pic_y4m.specs.declared.head.TheConstants.{MAX_FRAMES}
use Rattle.pic_y4m.specs.declared.samples.SampleSize.TheVariants.{Pair}
use Rattle.pic_y4m.specs.HeadLine.{IsHead}
use Rattle.pic_y4m.specs.Samples.{samples_at, some_samples_at, in_range}
use Rattle.pic_y4m.specs.Frames.{HasForm, has_alpha, Pictures, first_and}

-- ---- frames

-- the number of samples of luma and of alpha, and of each chroma plane
abbrev pub luma_count : Head → ℕ
luma_count h = h.height * h.width

abbrev pub chroma_count : Head → ℕ
chroma_count h = h.height * chroma_width h.chroma h.width

-- 2 to alpha's bit depth: one more than the largest sample
abbrev pub alpha_limit : AlphaKind → ℕ
alpha_limit Absent = 65536
alpha_limit Eight = 256
alpha_limit Sixteen = 65536

-- a plane with these samples
abbrev pub plane_of : ℕ → ℕ → List ℕ → Raster
plane_of width height samples = record { width = width; height = height; samples = samples }

-- the picture with these planes
abbrev pub picture_of : Head → List ℕ → List ℕ → List ℕ → Option (List ℕ) → Picture
picture_of h y cb cr alpha = record {
  y = plane_of h.width h.height y;
  cb = plane_of (chroma_width h.chroma h.width) h.height cb;
  cr = plane_of (chroma_width h.chroma h.width) h.height cr;
  alpha = option_map (plane_of h.width h.height) alpha;
  chroma = h.chroma;
  depth = h.depth;
}

-- the samples of alpha, if the form has alpha
abbrev pub alpha_at : Bool → ℕ → Rest → Read PictureKind (Option (List ℕ))
alpha_at false count s = Ok (None, s)
alpha_at true count s = do
  samples ← samples_at Pair count s
  Ok (Some samples.0, samples.1)

-- a fault at the first sample of alpha that isn't below the limit
abbrev pub alpha_in_range : AlphaKind → Option (List ℕ) → ℕ → Result (Unit {0}) (Fault PictureKind)
alpha_in_range kind None place = Ok tt
alpha_in_range kind (Some samples) place = in_range Pair (alpha_limit kind) samples place

-- The picture after its luma, which begins at this offset; its samples are validated after all are read.
unfoldable pub picture_behind : Head → ℕ → List ℕ → Rest → Read PictureKind Picture
picture_behind h place y s = do
  cb ← samples_at Pair (chroma_count h) s
  cr ← samples_at Pair (chroma_count h) cb.1
  alpha ← alpha_at (has_alpha h.alpha) (luma_count h) cr.1
  _ ← in_range Pair (2 ^ sample_bits h.depth) y place
  _ ← in_range Pair (2 ^ sample_bits h.depth) cb.0 s.place
  _ ← in_range Pair (2 ^ sample_bits h.depth) cr.0 cb.1.place
  _ ← alpha_in_range h.alpha alpha.0 cr.1.place
  Ok (picture_of h y cb.0 cr.0 alpha.0, alpha.1)

-- the frame after its luma; `None` if there is no luma
abbrev pub frame_behind : Head → ℕ → Option (List ℕ) → Rest → Read PictureKind (Option Picture)
frame_behind h place None s = Ok (None, s)
frame_behind h place (Some y) s = do
  picture ← picture_behind h place y s
  Ok (Some picture.0, picture.1)

-- the next frame, or `None` at the end of the input
unfoldable pub frame_at : Head → Rest → Read PictureKind (Option Picture)
frame_at h s = do
  y ← some_samples_at Pair (luma_count h) s
  frame_behind h s.place y.0 y.1

-- a picture of a form, with samples of alpha within their bit depth
pub record IsPicture (h : Head) (p : Picture) : Type 0 where
  pub form : HasForm h p
  pub alpha : IfSome p.alpha (λ a. All (λ s. s < alpha_limit h.alpha) a.samples)

-- ---- the pictures that remain for a reader

-- the form of all pictures, the number of frames read so far, and the offset after them
pub record State : Type 0 where
  pub head : Head
  pub frames : ℕ
  pub place : ℕ

-- before the first frame
abbrev pub started : Head → State
started head = record { head = head; frames = 0; place = 0 }

-- after one more frame, which ends at this offset
abbrev pub advanced : State → ℕ → State
advanced r place = record r { frames = r.frames + 1; place = place }

-- the next picture, or `None` at the end of the input; after `MAX_FRAMES` frames a further byte is a fault
unfoldable pub next_at : State → Rest → Read PictureKind (Option Picture)
next_at r s = if r.frames == MAX_FRAMES then (if length s.bytes == 0 then Ok (None, s) else bad kinds.TooManyFrames s.place) else frame_at r.head s

-- at most `n` of the pictures that remain for a reader
unfoldable pub pictures_in : ℕ → State → Rest → Pictures
pictures_in zero r s = record { pictures = []; fault = None }
pictures_in (suc n) r s = first_and (next_at r s) (λ rest. pictures_in n (advanced r rest.place) rest)

-- All pictures that remain for a reader. One call more than the maximum number of frames reaches the end, or the
-- fault.
unfoldable pub pictures_left : State → Rest → Pictures
pictures_left r s = pictures_in (MAX_FRAMES + 1 - r.frames) r s

-- the reader's invariant
pub record IsState (r : State) : Type 0 where
  pub head : IsHead r.head
  pub few : r.frames ≤ MAX_FRAMES
  pub place : r.place ≤ r.frames * 2 ^ 29

-- The reader after a call: one more frame after a picture, and otherwise unchanged.
abbrev pub IsAfter : {E : Type 0} → State → State → Result (Option Picture) E → Type 0
IsAfter old new (Ok (Some _)) = new ≡ advanced old new.place
IsAfter old new (Ok None) = new ≡ old
IsAfter old new (Err _) = new ≡ old
