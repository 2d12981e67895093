use Rattle.std.proofs.Common.{take}
use Rattle.rate_least.specs.inner.Merge.{IsNext}
use Rattle.rate_least.proofs.merge.merge_all.Given as goal

abbrev pub invariant-loop-x : goal.invariant-loop-x
invariant-loop-x l = IsNext l.bound l.layer (take l.x-index l.slice) l.next.items
