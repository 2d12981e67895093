use Rattle.std.proofs.Common.{◌<◌, ◌≤◌, ℕ, pos, get_or, nat_abs}
use Rattle.pr_quant.specs.Quantised.{greatest_coefficient}
use Rattle.tests_rate.proofs.build.assert_block.Given as goal

abbrev pub invariant-loop-place : goal.invariant-loop-place
invariant-loop-place g l = (p : ℕ) → p < l.place → nat_abs (get_or l.block p (pos 0)) ≤ greatest_coefficient
