use Rattle.std.proofs.Common.{◌≤◌, ◌^◌}
use Rattle.rate_least.proofs.Curved.{Curved}
use Rattle.rate_least.proofs.points.curve.Given as goal

-- the curves so far
abbrev pub invariant-loop-k : goal.invariant-loop-k
invariant-loop-k l = record {
  curved : Curved l.fn.table.slices l.k l.count l.points.items;
  few : l.count ≤ 2 ^ 25;
}
