-- What taking one byte from a source gives (our own).
use Rattle.std.specs.Prelude.{◌≡◌, ℕ, ◌<◌, List, [], ◌∷◌, Option, Some, None, Result, Ok, Err, IsSome}
use Rattle.pw_outside.specs.Reading.{bytes_of}

-- If the source's bytes are visible, this byte came first and was taken, or none is left.
abbrev pub GivesByte : {E : Type 0} → Result (Option ℕ) E → Option (List ℕ) → Option (List ℕ) → Type 0
GivesByte (Ok (Some byte)) before now = (byte < 256) × (IsSome before → bytes_of before ≡ byte ∷ bytes_of now)
GivesByte (Ok None) before now = IsSome before → (bytes_of before ≡ []) × (bytes_of now ≡ [])
GivesByte (Err e) before now = Unit {0}

-- the number of bytes that came
abbrev pub byte_count : {E : Type 0} → Result (Option ℕ) E → ℕ
byte_count (Ok (Some byte)) = 1
byte_count (Ok None) = 0
byte_count (Err e) = 0
