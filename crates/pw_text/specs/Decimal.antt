-- Decimal numbers below 2^64. Our own definitions.
use Rattle.std.specs.Prelude.{◌≡◌, ℕ, ◌<◌, ◌^◌, List, length, slice_index}
use Rattle.std.specs.Fmt.{decimal}
use Rattle.std.specs.Str.Parse.{digits_value, AllDigits}

-- digits, at least one, of a number below 2^64
pub record IsDecimal (bytes : List ℕ) : Type 0 where
  pub some : 0 < length bytes
  pub digits : AllDigits 10 bytes
  pub small : digits_value 10 bytes < 2 ^ 64

-- the digits of this number, with no leading zero
pub record IsSpelling (number : ℕ) (bytes : List ℕ) : Type 0 where
  pub digits : IsDecimal bytes
  pub value : digits_value 10 bytes ≡ number
  pub first : slice_index bytes 0 ≡ 48 → length bytes ≡ 1

-- std's digits of a number are a spelling
abbrev pub DecimalIsSpelling : Type 0
DecimalIsSpelling = (number : ℕ) → number < 2 ^ 64 → IsSpelling number (decimal number)

-- no other bytes are a spelling
abbrev pub SpellingIsDecimal : Type 0
SpellingIsDecimal = (number : ℕ) (bytes : List ℕ) → IsSpelling number bytes → bytes ≡ decimal number
