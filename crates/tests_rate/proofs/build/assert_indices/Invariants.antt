use Rattle.std.proofs.Common.{◌<◌, ℕ, length, get_or}
use Rattle.rate_build.specs.Coding.{IsIndex}
use Rattle.tests_rate.proofs.build.assert_indices.Given as goal

abbrev pub invariant-loop-index : goal.invariant-loop-index
invariant-loop-index g l = (k d : ℕ) → k < l.index-index → k < length l.choice → IsIndex (get_or l.choice k d)
