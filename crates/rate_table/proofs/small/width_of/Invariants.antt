use Rattle.std.proofs.Common.{◌≡◌, ◌≤◌, ◌*◌, drop}
use Rattle.std.specs.List.{All}
use Rattle.rate_table.specs.Table.{IsSliceTable}
use Rattle.rate_table.specs.Choices.{width}
use Rattle.rate_table.proofs.small.width_of.Given as goal

abbrev pub invariant-loop-slice : goal.invariant-loop-slice
invariant-loop-slice l = record {
  few : l.product ≤ 65536;
  rest : l.product * width (drop l.slice-index l.slices) ≡ width l.slices;
  each : All IsSliceTable (drop l.slice-index l.slices);
}
