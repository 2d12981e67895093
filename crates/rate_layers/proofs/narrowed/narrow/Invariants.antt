use Rattle.std.proofs.Common.{◌≡◌, ◌<◌, ◌^◌, map, drop}
use Rattle.rate_table.specs.Pairs.{rest}
use Rattle.rate_layers.proofs.Lessened.{Lessened}
use Rattle.rate_layers.proofs.narrowed.narrow.Given as goal

-- the frontiers so far, and the least costs of the remaining slices
abbrev pub invariant-loop-k : goal.invariant-loop-k
invariant-loop-k l = record {
  layers : Lessened l.fn.table l.fn.multiplier l.fn.goal.error (map (λ v. v.items) l.fn.layers.items) (map (λ v. v.items) l.layers.items) l.k;
  costs : l.costs ≡ rest l.fn.multiplier (drop l.k l.fn.table.slices);
  small : l.costs < 2 ^ 98;
}
