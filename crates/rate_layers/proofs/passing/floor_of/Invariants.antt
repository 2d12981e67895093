use Rattle.std.proofs.Common.{◌≤◌, take}
use Rattle.rate_layers.specs.inner.Merge.{IsFloor}
use Rattle.rate_layers.proofs.passing.floor_of.Given as goal

abbrev pub invariant-loop-p : goal.invariant-loop-p
invariant-loop-p l = record {
  floor : IsFloor l.bound.multiplier (take l.p-index l.layer) l.floor;
  ceiling : l.floor ≤ l.bound.ceiling;
}
