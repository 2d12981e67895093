use Rattle.std.proofs.Common.{◌≡◌, ◌<◌, ◌++◌, drop}
use Rattle.std.specs.List.{All}
use Rattle.rate_table.specs.Table.{IsSliceTable, indices}
use Rattle.rate_table.specs.Choices.{width}
use Rattle.rate_table.specs.Small.{choice_at}
use Rattle.rate_table.proofs.small.choice_of.Given as goal

abbrev pub invariant-loop-slice : goal.invariant-loop-slice
invariant-loop-slice l = record {
  width : l.width ≡ width (drop l.slice-index l.slices);
  rest : l.rest < l.width;
  each : All IsSliceTable (drop l.slice-index l.slices);
  choice : l.choice.items ++ indices (choice_at (drop l.slice-index l.slices) l.rest) ≡ indices (choice_at l.slices l.number);
}
