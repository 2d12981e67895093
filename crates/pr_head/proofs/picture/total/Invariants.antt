use Rattle.std.proofs.Common.{◌≡◌, ◌*◌, ◌≤◌, sum, take}
use Rattle.pr_head.proofs.picture.total.Given as goal

abbrev pub invariant-loop-size : goal.invariant-loop-size
invariant-loop-size l = record {
  value : l.total ≡ sum (take l.size-index l.sizes);
  small : l.total ≤ 65535 * l.size-index;
}
