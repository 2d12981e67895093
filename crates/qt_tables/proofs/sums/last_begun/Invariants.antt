use Rattle.std.proofs.Common.{◌≤◌, ◌<◌, ◌-◌, length, get_or}
use Rattle.qt_tables.proofs.sums.last_begun.Given as goal

abbrev pub invariant-halves : goal.invariant-halves
invariant-halves l = record {
  order : l.low < l.high;
  in_range : l.high < length l.sums;
  begun : get_or l.sums l.low 0 ≤ l.count;
  next : l.count < get_or l.sums l.high 0;
}

abbrev pub decreases-halves : goal.decreases-halves
decreases-halves l = l.high - l.low
