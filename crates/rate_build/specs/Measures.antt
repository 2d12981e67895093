-- The cost of a part of a slice at a quantisation index: the bytes of its component, and its squared error (the
-- component is that of SMPTE RDD 36, scanned coefficients; the error, in coefficients, is our own).
use Rattle.std.specs.Prelude.{◌≡◌, ℕ, ◌+◌, ◌-◌, ◌^◌, ◌<◌, ◌≤◌, List, length, map, get_or, ℤ, pos}
use Rattle.std.specs.List.{All, range_with_len}
use Rattle.pr_dct.specs.Transform.{AreWithin}
use Rattle.pr_quant.specs.Errors.{multipliers, part_error}
use Rattle.pr_quant.specs.Quantised.{quantised, greatest_coefficient, greatest_multiplier}
use Rattle.pr_coeff.specs.Component.{component}
use Rattle.rate_build.specs.declared.costs.Measure.{Measure}

-- a multiplier of written frames
pub record IsFrameMultiplier (m : ℕ) : Type 0 where
  pub least : 2 ≤ m
  pub most : m ≤ greatest_multiplier

-- a block quantised, each coefficient by the multiplier at its position
unfoldable pub quantised_block : List ℕ → List ℤ → List ℤ
quantised_block ms block = map (λ p. quantised (get_or block p (pos 0)) (get_or ms p 0)) (range_with_len 0 64)

-- the blocks of a part, quantised at an index
unfoldable pub quantised_part : List ℕ → ℕ → List (List ℤ) → List (List ℤ)
quantised_part weights index blocks = map (quantised_block (multipliers weights index)) blocks

-- the cost of a part at an index: the bytes of its component in scan order, and its squared error
abbrev pub measured : List ℕ → List ℕ → List (List ℤ) → ℕ → Measure
measured scan weights blocks index = record {
  bytes = length (component scan (quantised_part weights index blocks));
  error = part_error weights index blocks;
}

-- the same at each index from `lo` to `hi`
abbrev pub all_measured : List ℕ → List ℕ → List (List ℤ) → ℕ → ℕ → List Measure
all_measured scan weights blocks lo hi = map (measured scan weights blocks) (range_with_len lo (hi + 1 - lo))

-- a block of coefficients
pub record IsCoefficientBlock (block : List ℤ) : Type 0 where
  pub whole : length block ≡ 64
  pub within : AreWithin greatest_coefficient block

-- the blocks of a part of a slice
pub record ArePart (blocks : List (List ℤ)) : Type 0 where
  pub some : 1 ≤ length blocks
  pub few : length blocks ≤ 32
  pub each : All IsCoefficientBlock blocks

-- a measure within the bounds that parts have
pub record IsSmall (m : Measure) : Type 0 where
  pub bytes : m.bytes ≤ 14080
  pub error : m.error ≤ 2 ^ 39

abbrev pub no_measure : Measure
no_measure = record { bytes = 0; error = 0 }

-- the measures of a part at the first n indices are within these bounds
abbrev pub AreSmall : List Measure → ℕ → Type 0
AreSmall measures n = (k : ℕ) → k < n → IsSmall (get_or measures k no_measure)
