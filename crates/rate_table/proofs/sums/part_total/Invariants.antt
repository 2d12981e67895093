use Rattle.std.proofs.Common.{◌≤◌, ◌*◌, take}
use Rattle.rate_table.specs.Table.{HasSums}
use Rattle.rate_table.proofs.sums.part_total.Given as goal

abbrev pub invariant-loop-i : goal.invariant-loop-i
invariant-loop-i l = record {
  sums : HasSums (take l.i l.slices) (take l.i l.choice) l.size l.error;
  size : l.size ≤ 65535 * l.i;
  error : l.error ≤ 8796093022208 * l.i;
}
