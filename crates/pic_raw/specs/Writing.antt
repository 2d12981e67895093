-- Written raw planar pictures (our own).
use Rattle.std.specs.Prelude.{◌≡◌, ℕ, ◌+◌, ◌<◌, ◌≤◌, List, [], ◌∷◌, ◌++◌, length, Option, None, Some, Ok, IfSome}
use Rattle.std.specs.List.{flat_map}
use Rattle.pw_planes.specs.declared.picture.Picture.{Picture}
use Rattle.pw_planes.specs.Plane.{Raster, IsPlane}
use Rattle.pic_y4m.specs.declared.head.Head.{Head}
use Rattle.pic_y4m.specs.declared.head.TheConstants.{MAX_FRAMES}
use Rattle.pic_y4m.specs.declared.samples.SampleSize.TheVariants.{Pair}
use Rattle.pic_y4m.specs.Samples.{plane_bytes}
use Rattle.pic_raw.specs.Raw.{State, IsPicture, next_at, pictures_left}

-- the alpha plane, if there is one
abbrev pub alpha_bytes : Option Raster → List ℕ
alpha_bytes None = []
alpha_bytes (Some a) = plane_bytes Pair a.samples

-- a picture: the planes Y, Cb, Cr and alpha
unfoldable pub raw_bytes : Picture → List ℕ
raw_bytes p = plane_bytes Pair p.y.samples ++ plane_bytes Pair p.cb.samples ++ plane_bytes Pair p.cr.samples ++ alpha_bytes p.alpha

-- the bytes of these pictures
abbrev pub frames_bytes : List Picture → List ℕ
frames_bytes pictures = flat_map raw_bytes pictures

-- a picture of a form with well-formed planes
pub record IsWhole (h : Head) (p : Picture) : Type 0 where
  pub picture : IsPicture h p
  pub luma : IsPlane p.y
  pub cb : IsPlane p.cb
  pub cr : IsPlane p.cr
  pub alpha : IfSome p.alpha IsPlane

-- each of the pictures is whole
abbrev pub AreWhole : Head → List Picture → Type 0
AreWhole h [] = Unit {0}
AreWhole h (p ∷ ps) = IsWhole h p × AreWhole h ps

-- A written picture is read back: a reader of its form returns it, and continues after it.
abbrev pub WrittenIsRead : Type 0
WrittenIsRead = (r : State) (p : Picture) (rest : List ℕ) → r.frames < MAX_FRAMES → IsWhole r.head p
    → next_at r (record { place = r.place; bytes = raw_bytes p ++ rest }) ≡ Ok (Some p, record { place = r.place + length (raw_bytes p); bytes = rest })

-- A reader returns exactly the written pictures, and then the end.
abbrev pub PicturesAreRead : Type 0
PicturesAreRead = (r : State) (pictures : List Picture) → r.frames + length pictures ≤ MAX_FRAMES → AreWhole r.head pictures
    → pictures_left r (record { place = r.place; bytes = frames_bytes pictures }) ≡ record { pictures = pictures; fault = None }
