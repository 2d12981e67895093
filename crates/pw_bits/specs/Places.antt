-- Bits of bytes in memory, by their offsets (our own).
use Rattle.std.specs.Prelude.{◌≡◌, ℕ, ◌-◌, ◌<◌, ◌≤◌, Bool, true, List, ◌∷◌, take, drop}
use Rattle.pw_bits.specs.Bits.{bits, zeros}

-- the bits from one offset to another, whatever bytes follow
unfoldable pub ahead : List ℕ → ℕ → ℕ → List Bool
ahead padded end at = take (end - at) (drop at (bits padded))

-- The last 1 is right before this offset. Where there is none, the offset is 0.
pub record LastOne (padded : List ℕ) (end last : ℕ) : Type 0 where
  pub inside : last ≤ end
  pub behind : ahead padded end last ≡ zeros (end - last)
  pub one : 0 < last → ahead padded end (last - 1) ≡ true ∷ ahead padded end last
