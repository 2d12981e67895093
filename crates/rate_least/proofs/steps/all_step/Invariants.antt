use Rattle.std.proofs.Common.{◌≡◌, ◌<◌, ◌^◌, map, drop}
use Rattle.rate_table.specs.Pairs.{rest}
use Rattle.rate_least.specs.Pairs.{least_error}
use Rattle.rate_least.proofs.Stepped.{StepsUntil}
use Rattle.rate_least.proofs.steps.all_step.Given as goal

-- the steps so far, and the least errors and costs of the remaining slices
abbrev pub invariant-loop-k : goal.invariant-loop-k
invariant-loop-k l = record {
  steps : StepsUntil l.fn.table.slices l.fn.cap l.fn.multiplier l.fn.size (map (λ v. v.items) l.layers) l.k;
  errors : l.errors ≡ least_error (drop l.k l.fn.table.slices);
  costs : l.costs ≡ rest l.fn.multiplier (drop l.k l.fn.table.slices);
  small : l.costs < 2 ^ 98;
  room : l.errors < 2 ^ 61;
}
