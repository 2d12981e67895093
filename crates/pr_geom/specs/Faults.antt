-- Which sizes have a layout, and why others have none (limits of our own).
use Rattle.std.specs.Prelude.{◌≡◌, ℕ, ◌/◌, ◌%◌, ◌<◌, ◌≤◌, ◌==◌, nat_lt, ◌||◌, Option, None, Some, length, if◌then◌else◌}
use Rattle.pw_planes.specs.declared.kinds.Interlace.{Interlace}
use Rattle.pw_planes.specs.declared.plane.TheConstants.{MAX_WIDTH, MAX_HEIGHT}
use Rattle.pr_geom.specs.declared.places.GeomFault.{GeomFault}
use Rattle.pr_geom.specs.declared.places.GeomFault.TheVariants.{SizeZero, SizeLimit, OddInterlaced, TooManySlices}
use Rattle.pr_geom.specs.declared.places.TheConstants.{MAX_SLICES}
use Rattle.pr_geom.specs.Slices.{pictures_of, macroblocks, picture_slices}

-- the number of slices of each picture of a frame
unfoldable pub slice_count : ℕ → ℕ → ℕ → Interlace → ℕ
slice_count width height log2 interlace = length (picture_slices (macroblocks width) (macroblocks (height / pictures_of interlace)) log2)

-- the first of the four causes that hold, in their order; none where there is a layout
abbrev pub first_fault : ℕ → ℕ → ℕ → Interlace → Option GeomFault
first_fault width height log2 interlace =
    if width == 0 || height == 0 then Some SizeZero
    else (if nat_lt MAX_WIDTH width || nat_lt MAX_HEIGHT height then Some SizeLimit
    else (if nat_lt 0 (height % pictures_of interlace) then Some OddInterlaced
    else (if nat_lt MAX_SLICES (slice_count width height log2 interlace) then Some TooManySlices else None)))

-- what holds of every layout
pub record IsAllowed (width height log2 : ℕ) (interlace : Interlace) : Type 0 where
  pub some_columns : 0 < width
  pub some_rows : 0 < height
  pub columns : width ≤ MAX_WIDTH
  pub rows : height ≤ MAX_HEIGHT
  pub size : log2 ≤ 3
  pub whole : height % pictures_of interlace ≡ 0
  pub slices : slice_count width height log2 interlace ≤ MAX_SLICES
