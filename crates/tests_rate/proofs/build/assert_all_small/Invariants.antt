use Rattle.std.proofs.Common.{◌<◌, ℕ, get_or, []}
use Rattle.pr_coeff.specs.Component.{AllSmall}
use Rattle.tests_rate.proofs.build.assert_all_small.Given as goal

abbrev pub invariant-loop-block : goal.invariant-loop-block
invariant-loop-block g l = (k : ℕ) → k < l.block-index → AllSmall (get_or l.blocks k [])
