use Rattle.std.proofs.Common.{◌≡◌, ◌+◌, ◌<◌, ◌^◌, map, drop}
use Rattle.rate_table.specs.Table.{least_sizes}
use Rattle.rate_table.specs.Pairs.{rest}
use Rattle.rate_check.proofs.Stepped.{StepsUntil}
use Rattle.rate_check.proofs.steps.all_step.Given as goal

-- the steps so far, and the least sizes and costs of the remaining slices
abbrev pub invariant-loop-k : goal.invariant-loop-k
invariant-loop-k l = record {
  steps : StepsUntil l.fn.table l.fn.multiplier l.fn.error (map (λ v. v.items) l.layers) l.k;
  taken : l.taken ≡ l.fn.table.fixed + least_sizes (drop l.k l.fn.table.slices);
  costs : l.costs ≡ rest l.fn.multiplier (drop l.k l.fn.table.slices);
  small : l.costs < 2 ^ 98;
  room : l.taken < 2 ^ 40;
}
