use Rattle.std.proofs.Common.{◌-◌, length, drop}
use Rattle.std.specs.List.{All}
use Rattle.rate_table.specs.Table.{IsEntry}
use Rattle.rate_layers.specs.inner.Merge.{Thinned}
use Rattle.rate_layers.proofs.thin.thin.Given as goal

abbrev pub invariant-loop-k : goal.invariant-loop-k
invariant-loop-k l = record {
  thinned : Thinned (drop (length l.entries - l.k) l.entries) l.few.items;
  entries : All IsEntry l.few.items;
}
