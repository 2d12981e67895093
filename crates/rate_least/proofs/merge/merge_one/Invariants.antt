use Rattle.std.proofs.Common.{length, take, drop, ◌-◌, ◌≤◌, []}
use Rattle.rate_least.specs.inner.Merge.{Merging}
use Rattle.rate_least.proofs.merge.merge_one.Given as goal

abbrev pub invariant-loop-p : goal.invariant-loop-p
invariant-loop-p l = record {
  within : l.i ≤ length l.front;
  merging : Merging l.bound l.x (take l.i l.front) (drop l.i l.front) (take l.p-index l.layer) (drop l.p-index l.layer) l.out.items;
}

abbrev pub invariant-before-2 : goal.invariant-before-2
invariant-before-2 l = record {
  within : l.i ≤ length l.front;
  merging : Merging l.bound l.x (take l.i l.front) (drop l.i l.front) (take l.p-index l.layer) (drop l.p-index l.layer) l.out.items;
}

abbrev pub decreases-before-2 : goal.decreases-before-2
decreases-before-2 l = length l.front - l.i

abbrev pub invariant-after : goal.invariant-after
invariant-after l = record {
  within : l.i ≤ length l.front;
  merging : Merging l.bound l.fn.x (take l.i l.front) (drop l.i l.front) l.layer [] l.out.items;
}

abbrev pub decreases-after : goal.decreases-after
decreases-after l = length l.front - l.i
