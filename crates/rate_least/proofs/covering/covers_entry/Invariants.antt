use Rattle.std.proofs.Common.{◌≤◌, length}
use Rattle.rate_least.proofs.Covered.{SoFar, ReachesFrom}
use Rattle.rate_least.proofs.covering.covers_entry.Given as goal

abbrev pub invariant-loop-pair : goal.invariant-loop-pair
invariant-loop-pair l = record {
  within : l.at ≤ length l.next;
  reached : ReachesFrom l.layer l.next l.entry l.at l.pair-index;
  so_far : SoFar l.bound l.layer l.next l.entry l.pair-index;
}
