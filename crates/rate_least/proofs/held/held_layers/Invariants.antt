use Rattle.std.proofs.Common.{◌≡◌, ◌+◌, ◌*◌, ◌≤◌, ◌<◌, ◌^◌, map, drop}
use Rattle.rate_table.specs.Pairs.{rest}
use Rattle.rate_least.specs.Pairs.{least_error}
use Rattle.rate_least.specs.Layers.{pairs_in}
use Rattle.rate_least.proofs.Assembled.{Assembled}
use Rattle.rate_least.proofs.held.held_layers.Given as goal

-- the frontiers so far, and the bound with the remaining slices
abbrev pub invariant-loop-k : goal.invariant-loop-k
invariant-loop-k l = record {
  layers : Assembled (record { slices = l.fn.table.slices; cap = l.fn.cap }) l.fn.multiplier l.fn.size (map (λ v. v.items) l.layers.items) l.k;
  errors : l.bound.errors ≡ least_error (drop l.k l.fn.table.slices);
  floor : l.bound.floor ≡ rest l.fn.multiplier (drop l.k l.fn.table.slices);
  limit : l.bound.cap ≡ l.fn.cap;
  most : l.bound.most ≡ l.fn.cap + l.fn.multiplier * l.fn.size;
  multiplier : l.bound.multiplier ≡ l.fn.multiplier;
  few_errors : l.bound.errors < 2 ^ 61;
  small : l.bound.floor < 2 ^ 98;
  pairs : l.pairs ≡ pairs_in (map (λ v. v.items) l.layers.items);
  few : l.pairs ≤ 2 ^ 25;
}
