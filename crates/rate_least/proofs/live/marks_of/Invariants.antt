use Rattle.std.proofs.Common.{map, ◌≤◌, length}
use Rattle.rate_least.proofs.Found.{MarkedFrom}
use Rattle.rate_least.proofs.live.marks_of.Given as goal

-- the frontiers from k on have their marks
abbrev pub invariant-loop-k : goal.invariant-loop-k
invariant-loop-k l = record {
  within : l.k ≤ length l.fn.table.slices;
  marks : MarkedFrom l.fn.table.slices l.fn.goal (map (λ v. v.items) l.layers) (map (λ v. v.items) l.marks.items) l.k;
}

abbrev pub decreases-loop-k : goal.decreases-loop-k
decreases-loop-k l = l.k
