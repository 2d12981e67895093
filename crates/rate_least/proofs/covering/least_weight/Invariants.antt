use Rattle.std.proofs.Common.{ℕ, ◌<◌, ◌≤◌, ◌^◌, get_or}
use Rattle.rate_least.specs.declared.outcome.WidePair.{WidePair}
use Rattle.rate_least.specs.inner.Covering.{weight}
use Rattle.rate_least.proofs.covering.least_weight.Given as goal

abbrev pub invariant-loop-pair : goal.invariant-loop-pair
invariant-loop-pair l = record {
  below : (k : ℕ) (d : WidePair) → k < l.pair-index → l.least ≤ weight l.multiplier (get_or l.layer k d);
  small : l.least ≤ 2 ^ 99;
}
