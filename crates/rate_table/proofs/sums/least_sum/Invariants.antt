use Rattle.std.proofs.Common.{◌≡◌, ◌≤◌, ◌*◌, sum_by, take}
use Rattle.rate_table.specs.Table.{least}
use Rattle.rate_table.proofs.sums.least_sum.Given as goal

abbrev pub invariant-loop-slice : goal.invariant-loop-slice
invariant-loop-slice l = record {
  value : l.bytes ≡ sum_by (least (λ x. x.size)) (take l.slice-index l.slices);
  small : l.bytes ≤ 65535 * l.slice-index;
}
