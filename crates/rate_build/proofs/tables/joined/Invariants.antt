use Rattle.std.proofs.Common.{◌≡◌, ◌+◌, ◌<◌, map}
use Rattle.std.specs.List.{All, range_with_len}
use Rattle.rate_table.specs.Table.{IsSliceTable}
use Rattle.rate_table.specs.Body.{last_index}
use Rattle.rate_build.specs.Tables.{joined_entry, IsShort}
use Rattle.rate_build.proofs.tables.joined.Given as goal

abbrev pub invariant-loop-i : goal.invariant-loop-i
invariant-loop-i l = record {
  entries : l.table ≡ map (joined_entry l.beside l.y l.cb l.cr l.lo) (range_with_len 0 l.i);
  slice : IsSliceTable l.table;
  short : All IsShort l.table;
  last : last_index l.table < l.lo + l.i;
}
