use Rattle.std.proofs.Common.{◌<◌, ℕ, pos, get_or}
use Rattle.pr_coeff.specs.Component.{IsSmall}
use Rattle.tests_rate.proofs.build.assert_small.Given as goal

abbrev pub invariant-loop-place : goal.invariant-loop-place
invariant-loop-place g l = (p : ℕ) → p < l.place → IsSmall (get_or l.block p (pos 0))
