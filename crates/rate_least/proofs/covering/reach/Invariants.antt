use Rattle.std.proofs.Common.{◌-◌, ◌≤◌, length}
use Rattle.rate_least.specs.inner.Covering.{ReachesTo}
use Rattle.rate_least.proofs.covering.reach.Given as goal

abbrev pub invariant-loop-at : goal.invariant-loop-at
invariant-loop-at l = record {
  within : l.at ≤ length l.pairs;
  reached : ReachesTo l.pairs l.at l.size;
}

abbrev pub decreases-loop-at : goal.decreases-loop-at
decreases-loop-at l = length l.pairs - l.at
