-- Multipliers, quantised values and products. The scale of an index is that of SMPTE RDD 36, inverse quantization.
-- The rule of the nearest multiple, the product without a division and its clipping are our own.
use Rattle.std.specs.Prelude.{◌≡◌, ℕ, suc, ◌+◌, ◌-◌, ◌*◌, ◌/◌, ◌%◌, ◌^◌, ◌<◌, ◌≤◌, ℤ, pos, negsuc, ◌-ℤ◌, ◌*ℤ◌, neg_ℤ, nat_abs, nat_lt, nat_le, if◌then◌else◌}
use Rattle.std.specs.Int.{int_max, int_min}

-- the greatest magnitude of a coefficient
abbrev pub greatest_coefficient : ℕ
greatest_coefficient = 16383

-- the greatest multiplier: the greatest weight of a byte times the greatest scale
abbrev pub greatest_multiplier : ℕ
greatest_multiplier = 255 * 512

-- the scale of a quantisation index, from 1 to 224: steps of one up to 128, steps of four above
abbrev pub scale_of : ℕ → ℕ
scale_of index = if nat_le index 128 then index else (128 + 4 * (index - 128))

-- the distance of the coefficient c from q times the multiplier m
abbrev pub distance : ℤ → ℕ → ℤ → ℕ
distance c m q = nat_abs (c -ℤ q *ℤ pos m)

-- no multiple of m is nearer to c than q times m, and of two that are equally near q is the smaller in magnitude
pub record IsNearest (c : ℤ) (m : ℕ) (q : ℤ) : Type 0 where
  pub nearest : (p : ℤ) → distance c m q ≤ distance c m p
  pub smaller : (p : ℤ) → distance c m q ≡ distance c m p → nat_abs q ≤ nat_abs p

-- a / m, rounded to the nearest whole number, halves down
abbrev pub nearest_quotient : ℕ → ℕ → ℕ
nearest_quotient a m = if nat_lt m (2 * (a % m)) then a / m + 1 else a / m

-- the quantised value of c, with its sign: the one that is nearest, for every m above 0
unfoldable pub quantised : ℤ → ℕ → ℤ
quantised (pos a) m = pos (nearest_quotient a m)
quantised (negsuc a) m = neg_ℤ (pos (nearest_quotient (suc a) m))

abbrev pub squared : ℕ → ℕ
squared n = n * n

-- the squared error of a coefficient that is quantised
abbrev pub error_of : ℤ → ℕ → ℕ
error_of c m = squared (distance c m (quantised c m))

-- z, or the end of the range from `lowest` to `highest` that it passed
abbrev pub clipped : ℤ → ℤ → ℤ → ℤ
clipped lowest highest z = int_max lowest (int_min z highest)

-- the product that a quantised value is decoded to, from -2^19 to 2^19 - 1
abbrev pub dequantised : ℤ → ℕ → ℤ
dequantised q m = clipped (neg_ℤ (pos (2 ^ 19))) (pos (2 ^ 19 - 1)) (q *ℤ pos m)

-- every coefficient has a nearest value, the quantised one
abbrev pub QuantisedIsNearest : Type 0
QuantisedIsNearest = (c : ℤ) (m : ℕ) → 0 < m → IsNearest c m (quantised c m)

-- at most one value is nearest
abbrev pub OneIsNearest : Type 0
OneIsNearest = (c : ℤ) (m : ℕ) (p q : ℤ) → 0 < m → IsNearest c m p → IsNearest c m q → p ≡ q

-- a quantised value is small at multipliers from 2 and from 4 on
abbrev pub QuantisedIsSmall : Type 0
QuantisedIsSmall = (c : ℤ) (m : ℕ) → nat_abs c ≤ greatest_coefficient → (2 ≤ m → nat_abs (quantised c m) ≤ 8191) × (4 ≤ m → nat_abs (quantised c m) ≤ 4096)

-- a coefficient's squared error is below 2^28
abbrev pub ErrorIsSmall : Type 0
ErrorIsSmall = (c : ℤ) (m : ℕ) → 0 < m → nat_abs c ≤ greatest_coefficient → error_of c m < 2 ^ 28
