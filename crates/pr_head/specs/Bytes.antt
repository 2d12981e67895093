-- Fields of bytes by their offsets, the most significant bits first (SMPTE RDD 36, syntax).
use Rattle.std.specs.Prelude.{ℕ, List, take, drop, get_or}
use Rattle.std.specs.Int.{w16, w32, from_be_bytes}

-- the byte at an offset
abbrev pub byte : List ℕ → ℕ → ℕ
byte s place = get_or s place 0

-- the number of the two bytes from an offset on
unfoldable pub number16 : List ℕ → ℕ → ℕ
number16 s place = from_be_bytes w16 (take 2 (drop place s))

-- the number of the four bytes from an offset on
unfoldable pub number32 : List ℕ → ℕ → ℕ
number32 s place = from_be_bytes w32 (take 4 (drop place s))
