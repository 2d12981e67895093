-- The values of a head line's parameters (yuv4mpeg(5), stream header), within our own limits.
use Rattle.std.specs.Prelude.{ℕ, ◌+◌, ◌≤◌, Bool, true, false, ◌&&◌, ◌||◌, ◌==◌, nat_le, nat_lt, if◌then◌else◌, List, [], ◌∷◌, length, take, drop, Option, None, Some, option_and_then, bytes_eq, codes, nat_eq}
use Rattle.std.specs.List.{position, starts_with}
use Rattle.std.specs.Char.{digit_value}
use Rattle.std.specs.Str.Parse.{digits_value}
use Rattle.pw_planes.specs.declared.kinds.Chroma.TheVariants.{C422, C444}
use Rattle.pw_planes.specs.declared.kinds.Depth.TheVariants.{D8, D10, D12}
use Rattle.pw_planes.specs.declared.kinds.Chroma.{Chroma}
use Rattle.pw_planes.specs.declared.kinds.Depth.{Depth}
use Rattle.pw_planes.specs.declared.kinds.Interlace.{Interlace}
use Rattle.pw_planes.specs.declared.kinds.Interlace.TheVariants.{Progressive, TopFirst, BottomFirst}
use Rattle.pic_y4m.specs.declared.head.TheConstants.{MAX_RATE_NUM, MAX_RATE_DEN}
use Rattle.pic_y4m.specs.declared.values.Rate.{Rate}
use Rattle.pic_y4m.specs.declared.values.Format.{Format}

-- whether each byte is one of the digits 0 to 9
abbrev pub all_digits : List ℕ → Bool
all_digits [] = true
all_digits (b ∷ bs) = nat_lt (digit_value b) 10 && all_digits bs

-- the decimal number that the bytes spell: one digit or more, leading zeros allowed
abbrev pub number : List ℕ → Option ℕ
number bytes = if nat_lt 0 (length bytes) && all_digits bytes then Some (digits_value 10 bytes) else None

abbrev pub when_within : ℕ → ℕ → ℕ → Option ℕ
when_within low high n = if nat_le low n && nat_le n high then Some n else None

-- the number, if it is from `low` to `high`
unfoldable pub number_within : ℕ → ℕ → List ℕ → Option ℕ
number_within low high bytes = option_and_then (when_within low high) (number bytes)

-- a rate within the limits
pub record IsRate (r : Rate) : Type 0 where
  pub some_num : 1 ≤ r.num
  pub num : r.num ≤ MAX_RATE_NUM
  pub some_den : 1 ≤ r.den
  pub den : r.den ≤ MAX_RATE_DEN

-- 0:0 is unspecified, and means 25:1; otherwise no part is 0
abbrev pub rate_from : ℕ → ℕ → Option Rate
rate_from num den = if num == 0 && den == 0 then Some (record { num = 25; den = 1 })
    else (if num == 0 || den == 0 then None else Some (record { num = num; den = den }))

-- the rate `a:b`
unfoldable pub rate_of : List ℕ → Option Rate
rate_of bytes = option_and_then (λ colon.
    option_and_then (λ num. option_and_then (λ den. rate_from num den) (number_within 0 MAX_RATE_DEN (drop (colon + 1) bytes)))
    (number_within 0 MAX_RATE_NUM (take colon bytes)))
    (position (λ b. b == 58) bytes)

-- `p` and `?` are progressive, `t` is top field first, `b` bottom field first
unfoldable pub interlace_of : List ℕ → Option Interlace
interlace_of bytes = if bytes_eq bytes (codes "p") then Some Progressive
    else (if bytes_eq bytes (codes "?") then Some Progressive
    else (if bytes_eq bytes (codes "t") then Some TopFirst
    else (if bytes_eq bytes (codes "b") then Some BottomFirst
    else None)))

-- the tags of 8-bit 4:2:0, which differ in chroma siting
unfoldable pub is_shared : List ℕ → Bool
is_shared bytes = bytes_eq bytes (codes "420") || (bytes_eq bytes (codes "420jpeg") || (bytes_eq bytes (codes "420mpeg2") || bytes_eq bytes (codes "420paldv")))

-- the bit depth by the end of a tag
unfoldable pub depth_of : List ℕ → Option Depth
depth_of end = if length end == 0 then Some D8
    else (if bytes_eq end (codes "p10") then Some D10
    else (if bytes_eq end (codes "p12") then Some D12
    else None))

-- each luma row has its own chroma row
abbrev pub whole_rows : Chroma → Option Depth → Option Format
whole_rows chroma depth = option_and_then (λ d. Some (record { chroma = chroma; depth = d; shares_rows = false })) depth

-- 4:2:2 within a row, and two luma rows share a chroma row
abbrev pub shared_rows : Format
shared_rows = record { chroma = C422; depth = D8; shares_rows = true }

-- The format by a tag: 420, 420jpeg, 420mpeg2, 420paldv; and 422 or 444, optionally followed by p10 or p12.
unfoldable pub format_of : List ℕ → Option Format
format_of tag = if is_shared tag then Some shared_rows
    else (if starts_with nat_eq tag (codes "422") then whole_rows C422 (depth_of (drop 3 tag))
    else (if starts_with nat_eq tag (codes "444") then whole_rows C444 (depth_of (drop 3 tag))
    else None))
