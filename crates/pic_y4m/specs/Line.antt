-- Lines of an input, and the magic word before the first.
use Rattle.std.specs.Prelude.{◌≡◌, ℕ, ◌+◌, min, not, ◌==◌, nat_lt, if◌then◌else◌, List, [], ◌∷◌, length, take, drop, Option, None, Some, Ok, IsSome, bytes_eq, codes}
use Rattle.std.specs.List.{position_or_len}
use Rattle.pw_outside.specs.Reading.{Rest, Read, ◌>>=◌, bad, refuse, bytes_of}
use Rattle.pic_y4m.specs.declared.fault.PictureKind.{PictureKind}
use Rattle.pic_y4m.specs.declared.fault.PictureKind.TheVariants as kinds

-- the first of the remaining bytes, or `None` if there are none
abbrev pub IsNextOf : Option ℕ → List ℕ → List ℕ → Type 0
IsNextOf None old new = (old ≡ []) × (new ≡ [])
IsNextOf (Some b) old new = old ≡ b ∷ new

-- if the source's bytes are visible, the next of them was read
pub record NextByte (old new : Option (List ℕ)) (byte : Option ℕ) : Type 0 where
  pub told : IsSome old → IsSome new
  pub next : IsSome old → IsNextOf byte (bytes_of old) (bytes_of new)

-- the number of bytes before the first line feed
abbrev pub feed : List ℕ → ℕ
feed bytes = position_or_len (λ b. b == 10) bytes

-- The next line without its line feed, which is one of the first `most` bytes. If the input ends without one, the
-- fault is Truncated at its end; if the line is longer, it is of kind `long` at `place`.
unfoldable pub line_at : ℕ → PictureKind → ℕ → Rest → Read PictureKind (List ℕ)
line_at most long place s =
    if nat_lt (feed s.bytes) (min most (length s.bytes)) then Ok (take (feed s.bytes) s.bytes, record { place = s.place + (feed s.bytes + 1); bytes = drop (feed s.bytes + 1) s.bytes })
    else (if nat_lt (length s.bytes) most then bad kinds.Truncated (s.place + length s.bytes) else bad long place)

-- the next line, or `None` at the end of the input
unfoldable pub next_line : ℕ → PictureKind → ℕ → Rest → Read PictureKind (Option (List ℕ))
next_line most long place s = if length s.bytes == 0 then Ok (None, s) else do
  line ← line_at most long place s
  Ok (Some line.0, line.1)

-- the magic word of Y4M
abbrev pub magic : List ℕ
magic = codes "YUV4MPEG2"

-- The magic word; Magic at its offset if a byte differs, Truncated if the input ends within it.
unfoldable pub magic_at : Rest → Read PictureKind (Unit {0})
magic_at s = do
  _ ← refuse (not (bytes_eq (take (min 9 (length s.bytes)) s.bytes) (take (min 9 (length s.bytes)) magic))) kinds.Magic s.place
  _ ← refuse (nat_lt (length s.bytes) 9) kinds.Truncated (s.place + length s.bytes)
  Ok (tt, record { place = s.place + 9; bytes = drop 9 s.bytes })
