-- Numbers and bytes as lists of bits, the most significant first, as in the bitstreams of SMPTE RDD 36.
use Rattle.std.specs.Prelude.{ℕ, zero, suc, ◌+◌, ◌-◌, ◌/◌, ◌%◌, ◌^◌, Bool, false, List, [], ◌∷◌, ◌++◌, length, replicate, nat_eq, if◌then◌else◌}
use Rattle.std.specs.List.{flat_map}
pub use Rattle.pw_outside.specs.Reading.{AreBytes}

-- the k low bits of n, the highest first
abbrev pub bits_of : ℕ → ℕ → List Bool
bits_of zero n = []
bits_of (suc k) n = nat_eq (n / 2 ^ k % 2) 1 ∷ bits_of k n

-- the number that a list of bits spells
abbrev pub value : List Bool → ℕ
value [] = 0
value (b ∷ l) = (if b then 2 ^ length l else 0) + value l

-- the bits of bytes
abbrev pub bits : List ℕ → List Bool
bits b = flat_map (bits_of 8) b

-- z zero bits
abbrev pub zeros : ℕ → List Bool
zeros n = replicate n false

-- the bytes that a list of bits fills
abbrev pub whole : List Bool → List ℕ
whole (a ∷ b ∷ c ∷ d ∷ e ∷ f ∷ g ∷ h ∷ l) = value (a ∷ b ∷ c ∷ d ∷ e ∷ f ∷ g ∷ h ∷ []) ∷ whole l
whole _ = []

-- the bits after the whole bytes, fewer than 8
abbrev pub left : List Bool → List Bool
left (a ∷ b ∷ c ∷ d ∷ e ∷ f ∷ g ∷ h ∷ l) = left l
left l = l

-- the fewest zero bits that fill the last byte of a list of bits
abbrev pub padding : List Bool → List Bool
padding l = zeros ((8 - length l % 8) % 8)

-- the bytes of a list of bits, the last one filled with zeros
abbrev pub bytes : List Bool → List ℕ
bytes l = whole (l ++ padding l)
