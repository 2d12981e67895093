use Rattle.std.proofs.Common.{◌≡◌, ◌+◌, ◌≤◌, ◌<◌, ◌^◌, map, drop}
use Rattle.rate_table.specs.Table.{least_sizes}
use Rattle.rate_table.specs.Pairs.{rest}
use Rattle.rate_layers.specs.Layers.{pairs_in}
use Rattle.rate_layers.proofs.Assembled.{Assembled}
use Rattle.rate_layers.proofs.layers.kept_layers.Given as goal

-- the frontiers so far, and the least sizes and costs of the remaining slices
abbrev pub invariant-loop-k : goal.invariant-loop-k
invariant-loop-k l = record {
  layers : Assembled l.fn.table l.fn.multiplier l.fn.error (map (λ v. v.items) l.layers.items) l.k;
  sizes : l.sizes ≡ l.fn.table.fixed + least_sizes (drop l.k l.fn.table.slices);
  costs : l.costs ≡ rest l.fn.multiplier (drop l.k l.fn.table.slices);
  small : l.costs < 2 ^ 98;
  pairs : l.pairs ≡ pairs_in (map (λ v. v.items) l.layers.items);
  few : l.pairs ≤ 2 ^ 25;
}
