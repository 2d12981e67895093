use Rattle.std.proofs.Common.{take}
use Rattle.rate_layers.specs.inner.Bound.{IsNext}
use Rattle.rate_layers.proofs.merge.merge_all.Given as goal

abbrev pub invariant-loop-x : goal.invariant-loop-x
invariant-loop-x l = IsNext l.bound l.layer (take l.x-index l.slice) l.next.items
