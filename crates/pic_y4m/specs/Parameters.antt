-- The parameters of a head line (yuv4mpeg(5), stream header), in our own profile.
use Rattle.std.specs.Prelude.{ℕ, ◌+◌, ◌≤◌, Bool, ◌==◌, if◌then◌else◌, List, [], ◌∷◌, length, Option, None, Some, Result, Ok, IfSome, is_some, bytes_eq, codes}
use Rattle.pw_outside.specs.Reading.{Fault, ◌>>=◌, bad, refuse}
use Rattle.pw_planes.specs.declared.plane.TheConstants.{MAX_WIDTH, MAX_HEIGHT}
use Rattle.pic_y4m.specs.declared.fault.PictureKind.{PictureKind}
use Rattle.pic_y4m.specs.declared.fault.PictureKind.TheVariants as kinds
use Rattle.pic_y4m.specs.declared.parameters.Parameters.{Parameters}
use Rattle.pic_y4m.specs.Values.{number_within, rate_of, interlace_of, format_of, IsRate}

abbrev pub none_found : Parameters
none_found = record { width = None; height = None; rate = None; mode = None; format = None }

-- the values found are within the limits
pub record AreWithin (p : Parameters) : Type 0 where
  pub width : IfSome p.width (λ n. (1 ≤ n) × (n ≤ MAX_WIDTH))
  pub height : IfSome p.height (λ n. (1 ≤ n) × (n ≤ MAX_HEIGHT))
  pub rate : IfSome p.rate IsRate

-- the value, or a fault if there is none
abbrev pub required : {A : Type 0} → Option A → PictureKind → ℕ → Result A (Fault PictureKind)
required None kind place = bad kind place
required (Some x) kind place = Ok x

-- W: the width
unfoldable pub with_width : Parameters → ℕ → List ℕ → Result Parameters (Fault PictureKind)
with_width p place value = do
  _ ← refuse (is_some p.width) kinds.Parameter place
  width ← required (number_within 1 MAX_WIDTH value) kinds.Parameter place
  Ok (record p { width = Some width })

-- H: the height
unfoldable pub with_height : Parameters → ℕ → List ℕ → Result Parameters (Fault PictureKind)
with_height p place value = do
  _ ← refuse (is_some p.height) kinds.Parameter place
  height ← required (number_within 1 MAX_HEIGHT value) kinds.Parameter place
  Ok (record p { height = Some height })

-- F: the frame rate
unfoldable pub with_rate : Parameters → ℕ → List ℕ → Result Parameters (Fault PictureKind)
with_rate p place value = do
  _ ← refuse (is_some p.rate) kinds.Parameter place
  rate ← required (rate_of value) kinds.Parameter place
  Ok (record p { rate = Some rate })

-- I: the interlacing; mixed interlace (m) is refused
unfoldable pub with_mode : Parameters → ℕ → List ℕ → Result Parameters (Fault PictureKind)
with_mode p place value = do
  _ ← refuse (is_some p.mode) kinds.Parameter place
  _ ← refuse (bytes_eq value (codes "m")) kinds.Interlace place
  interlace ← required (interlace_of value) kinds.Parameter place
  Ok (record p { mode = Some (record { interlace = interlace; place = place }) })

-- C: the format tag
unfoldable pub with_format : Parameters → ℕ → List ℕ → Result Parameters (Fault PictureKind)
with_format p place value = do
  _ ← refuse (is_some p.format) kinds.Parameter place
  format ← required (format_of value) kinds.Chroma place
  Ok (record p { format = Some format })

-- One parameter, by its letter. Other letters are skipped, and an empty word is ignored.
unfoldable pub with_parameter : Parameters → ℕ → List ℕ → Result Parameters (Fault PictureKind)
with_parameter p place [] = Ok p
with_parameter p place (letter ∷ value) = if letter == 87 then with_width p place value
    else (if letter == 72 then with_height p place value
    else (if letter == 70 then with_rate p place value
    else (if letter == 73 then with_mode p place value
    else (if letter == 67 then with_format p place value
    else Ok p))))

abbrev pub is_space : ℕ → Bool
is_space b = b == 32

-- The parameters of consecutive words, each followed by a space: the first fault is reported.
unfoldable pub parameters_of : Parameters → ℕ → List (List ℕ) → Result Parameters (Fault PictureKind)
parameters_of p place [] = Ok p
parameters_of p place (word ∷ words) = do
  q ← with_parameter p place word
  parameters_of q (place + (length word + 1)) words
