use Rattle.std.proofs.Common.{◌≡◌, ◌+◌, ◌++◌, sum_by}
use Rattle.std.specs.List.{flat_map}
use Rattle.std.specs.Vec.Iter.{into_iter_items}
use Rattle.rate_table.specs.Table.{Table}
use Rattle.rate_table.proofs.joining.join.Given as goal

abbrev pub invariant-loop-table : goal.invariant-loop-table
invariant-loop-table l = record {
  budget : l.budget + sum_by (λ (t : Table). t.budget) (into_iter_items l.table-iterator) ≡ sum_by (λ (t : Table). t.budget) l.fn.tables.items;
  fixed : l.fixed + sum_by (λ (t : Table). t.fixed) (into_iter_items l.table-iterator) ≡ sum_by (λ (t : Table). t.fixed) l.fn.tables.items;
  slices : l.slices.items ++ flat_map (λ (t : Table). t.slices) (into_iter_items l.table-iterator) ≡ flat_map (λ (t : Table). t.slices) l.fn.tables.items;
}
