use Rattle.std.proofs.Common.{take}
use Rattle.std.specs.List.{All}
use Rattle.rate_table.specs.Table.{IsEntry}
use Rattle.rate_layers.specs.inner.Merge.{Passing}
use Rattle.rate_layers.proofs.passing.passing.Given as goal

abbrev pub invariant-loop-x : goal.invariant-loop-x
invariant-loop-x l = record {
  passing : Passing l.bound l.layer (take l.x-index l.slice) l.few.items;
  entries : All IsEntry l.few.items;
}
