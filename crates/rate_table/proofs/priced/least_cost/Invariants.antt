use Rattle.std.proofs.Common.{◌≡◌, ◌<◌, ◌^◌, drop}
use Rattle.rate_table.specs.Table.{least}
use Rattle.rate_table.specs.Pairs.{cost}
use Rattle.rate_table.proofs.Chosen.{least_from}
use Rattle.rate_table.proofs.priced.least_cost.Given as goal

abbrev pub invariant-loop-entry : goal.invariant-loop-entry
invariant-loop-entry l = record {
  value : least_from (cost l.multiplier) l.least (drop l.entry-index l.entries) ≡ least (cost l.multiplier) l.entries;
  small : l.least < 2 ^ 81;
}
