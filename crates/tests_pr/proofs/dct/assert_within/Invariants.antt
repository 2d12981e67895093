use Rattle.std.proofs.Common.{◌≤◌, ◌<◌, ℕ, pos, nat_abs, get_or}
use Rattle.tests_pr.proofs.dct.assert_within.Given as goal

abbrev pub invariant-loop-i : goal.invariant-loop-i
invariant-loop-i g l = (k : ℕ) → k < l.i → nat_abs (get_or l.block k (pos 0)) ≤ nat_abs l.limit
