use Rattle.std.proofs.Common.{◌≡◌, map, take}
use Rattle.std.specs.List.{All}
use Rattle.rate_table.specs.Table.{IsSliceTable}
use Rattle.rate_build.specs.Tables.{entries_of, IsShort}
use Rattle.rate_build.proofs.tables.slice_tables.Given as goal

abbrev pub invariant-loop-slice : goal.invariant-loop-slice
invariant-loop-slice l = record {
  value : l.tables.items ≡ map (entries_of l.interlace l.alpha l.weights l.lo l.hi) (take l.slice-index l.slices);
  slices : All IsSliceTable l.tables.items;
  short : All (All IsShort) l.tables.items;
}
