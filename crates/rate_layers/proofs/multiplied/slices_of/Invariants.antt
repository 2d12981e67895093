use Rattle.std.proofs.Common.{◌≡◌, take}
use Rattle.std.specs.List.{All}
use Rattle.rate_table.specs.Table.{IsSliceTable}
use Rattle.rate_layers.specs.inner.Multiplied.{counted_slices}
use Rattle.rate_layers.proofs.multiplied.slices_of.Given as goal

abbrev pub invariant-loop-slice : goal.invariant-loop-slice
invariant-loop-slice l = record {
  counted : l.all.items ≡ counted_slices l.times (take l.slice-index l.slices);
  each : All IsSliceTable l.all.items;
}
