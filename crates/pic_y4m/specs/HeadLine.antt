-- The head line of a Y4M input (yuv4mpeg(5), stream header), in our own profile.
use Rattle.std.specs.Prelude.{◌≡◌, ℕ, ◌%◌, ◌≤◌, Bool, true, false, not, ◌&&◌, ◌||◌, ◌==◌, nat_lt, List, length, slice_index, Option, None, Some, Result, Ok, IsTrue, unwrap_or}
use Rattle.std.specs.List.{slice_split}
use Rattle.pw_outside.specs.Reading.{Fault, Rest, Read, ◌>>=◌, refuse}
use Rattle.pw_planes.specs.declared.kinds.AlphaKind.TheVariants.{Absent}
use Rattle.pw_planes.specs.declared.kinds.Interlace.{Interlace}
use Rattle.pw_planes.specs.declared.kinds.Interlace.TheVariants.{Progressive, TopFirst, BottomFirst}
use Rattle.pw_planes.specs.declared.plane.TheConstants.{MAX_WIDTH, MAX_HEIGHT}
use Rattle.pic_y4m.specs.declared.fault.PictureKind.{PictureKind}
use Rattle.pic_y4m.specs.declared.fault.PictureKind.TheVariants as kinds
use Rattle.pic_y4m.specs.declared.head.Head.{Head}
use Rattle.pic_y4m.specs.declared.head.TheConstants.{MAX_RATE_NUM, MAX_RATE_DEN}
use Rattle.pic_y4m.specs.declared.head_line.Stream.{Stream}
use Rattle.pic_y4m.specs.declared.values.Format.{Format}
use Rattle.pic_y4m.specs.declared.parameters.Mode.{Mode}
use Rattle.pic_y4m.specs.declared.parameters.Parameters.{Parameters}
use Rattle.pic_y4m.specs.Values.{shared_rows}
use Rattle.pic_y4m.specs.Line.{magic_at, next_line}
use Rattle.pic_y4m.specs.Parameters.{none_found, is_space, required, parameters_of}

-- interlaced frames
abbrev pub is_interlaced : Interlace → Bool
is_interlaced Progressive = false
is_interlaced TopFirst = true
is_interlaced BottomFirst = true

-- a form of pictures within the limits
pub record IsHead (h : Head) : Type 0 where
  pub some_columns : 1 ≤ h.width
  pub columns : h.width ≤ MAX_WIDTH
  pub some_rows : 1 ≤ h.height
  pub rows : h.height ≤ MAX_HEIGHT
  pub fields : IsTrue (is_interlaced h.interlace) → h.height % 2 ≡ 0
  pub some_num : 1 ≤ h.num
  pub num : h.num ≤ MAX_RATE_NUM
  pub some_den : 1 ≤ h.den
  pub den : h.den ≤ MAX_RATE_DEN

-- the contents of a head line
pub record IsStream (s : Stream) : Type 0 where
  pub head : IsHead s.head
  pub alpha : s.head.alpha ≡ Absent

abbrev pub is_odd : Option ℕ → Bool
is_odd None = false
is_odd (Some n) = n % 2 == 1

-- Interlaced frames with shared chroma rows or an odd height are refused; the fault is at parameter I.
unfoldable pub mode_allowed : Parameters → Format → Result (Unit {0}) (Fault PictureKind)
mode_allowed p format = allowed p.mode
  where
    allowed : Option Mode → Result (Unit {0}) (Fault PictureKind)
    allowed None = Ok tt
    allowed (Some mode) = refuse (is_interlaced mode.interlace && (format.shares_rows || is_odd p.height)) kinds.Interlace mode.place

abbrev pub interlace_in : Option Mode → Interlace
interlace_in None = Progressive
interlace_in (Some mode) = mode.interlace

-- The form from all parameters. The defaults are progressive, 4:2:0 and 25 frames per second; the width and the
-- height are required.
unfoldable pub stream_of : Parameters → Result Stream (Fault PictureKind)
stream_of p = do
  _ ← mode_allowed p (unwrap_or p.format shared_rows)
  width ← required p.width kinds.Parameter 0
  height ← required p.height kinds.Parameter 0
  Ok (record {
    head = record {
      width = width;
      height = height;
      chroma = (unwrap_or p.format shared_rows).chroma;
      depth = (unwrap_or p.format shared_rows).depth;
      alpha = Absent;
      interlace = interlace_in p.mode;
      num = (unwrap_or p.rate (record { num = 25; den = 1 })).num;
      den = (unwrap_or p.rate (record { num = 25; den = 1 })).den;
    };
    shares_rows = (unwrap_or p.format shared_rows).shares_rows;
  })

-- The form from the text between the magic word and the line feed: a space precedes the parameters.
unfoldable pub text_stream : List ℕ → Result Stream (Fault PictureKind)
text_stream text = do
  _ ← refuse (nat_lt 0 (length text) && not (is_space (slice_index text 0))) kinds.Parameter 9
  parameters ← parameters_of none_found 9 (slice_split is_space text)
  stream_of parameters

-- the head line, of at most 1,024 bytes; it is also truncated if the input ends right after the magic word
unfoldable pub stream_at : Rest → Read PictureKind Stream
stream_at s = do
  magic ← magic_at s
  line ← next_line 1015 kinds.Parameter 1024 magic.1
  text ← required line.0 kinds.Truncated magic.1.place
  stream ← text_stream text
  Ok (stream, line.1)
