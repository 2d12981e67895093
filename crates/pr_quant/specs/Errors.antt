-- The squared errors of blocks of coefficients that are quantised: of a block, of the blocks of a component, and of
-- a slice. Multipliers as in SMPTE RDD 36, inverse quantization; the error is our own.
use Rattle.std.specs.Prelude.{ℕ, ◌+◌, ◌*◌, ◌^◌, ◌<◌, ◌≤◌, List, length, map, sum, All, get_or, ℤ, pos, nat_abs}
use Rattle.std.specs.List.{range_with_len, sum_by}
use Rattle.pr_quant.specs.declared.weights.Weights.{Weights}
use Rattle.pr_quant.specs.Quantised.{scale_of, error_of, greatest_coefficient}

-- the multiplier at each position of a block: the weight times the scale of the index
unfoldable pub multipliers : List ℕ → ℕ → List ℕ
multipliers weights index = map (λ w. w * scale_of index) weights

-- the sum of the squared errors of a block's coefficients
unfoldable pub block_error : List ℕ → List ℤ → ℕ
block_error ms block = sum (map (λ p. error_of (get_or block p (pos 0)) (get_or ms p 0)) (range_with_len 0 64))

-- the sum of the squared errors of the blocks of a component
unfoldable pub part_error : List ℕ → ℕ → List (List ℤ) → ℕ
part_error weights index blocks = sum_by (block_error (multipliers weights index)) blocks

-- The most blocks that a slice has: eight macroblocks of twelve, four of each component in 4:4:4.
abbrev pub slice_blocks : ℕ
slice_blocks = 8 * 12

-- the coefficients of a block are of magnitude at most 16,383
abbrev pub HasCoefficients : List ℤ → Type 0
HasCoefficients block = (p : ℕ) → p < 64 → nat_abs (get_or block p (pos 0)) ≤ greatest_coefficient

-- The squared errors of all coefficients of a slice add up to less than 2^43, whatever its matrices and its index are.
abbrev pub SliceErrorIsSmall : Type 0
SliceErrorIsSmall = (weights : Weights) (index : ℕ) (y cb cr : List (List ℤ)) → length y + length cb + length cr ≤ slice_blocks
    → All HasCoefficients y → All HasCoefficients cb → All HasCoefficients cr
    → part_error weights.luma index y + part_error weights.chroma index cb + part_error weights.chroma index cr < 2 ^ 43
