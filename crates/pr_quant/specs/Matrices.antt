-- The named weight matrices. Our own.
use Rattle.std.specs.Prelude.{ℕ, ◌≤◌, List, replicate, All}
use Rattle.pr_quant.specs.Steep.{steep_weights}
use Rattle.pr_quant.specs.declared.weights.Matrix.{Matrix}
use Rattle.pr_quant.specs.declared.weights.Matrix.TheVariants.{Flat, Steep}

-- 4 everywhere, or 4 and one more for each row and each column
abbrev pub weights_of : Matrix → List ℕ
weights_of Flat = replicate 64 4
weights_of Steep = steep_weights

-- a weight that a quantization matrix of a frame header may have (SMPTE RDD 36, frame header)
abbrev pub IsWeight : ℕ → Type 0
IsWeight w = (2 ≤ w) × (w ≤ 63)

-- the weights of each named matrix are such
abbrev pub NamedWeightsAreInRange : Type 0
NamedWeightsAreInRange = (name : Matrix) → All IsWeight (weights_of name)
