use Rattle.std.proofs.Common.{◌<◌, ℕ, List, length, get_or, ℤ}
use Rattle.rate_build.specs.Measures.{IsCoefficientBlock}
use Rattle.tests_rate.proofs.build.assert_part.Given as goal

abbrev pub invariant-loop-block : goal.invariant-loop-block
invariant-loop-block g l = (k : ℕ) (d : List ℤ) → k < l.block-index → k < length l.blocks → IsCoefficientBlock (get_or l.blocks k d)
