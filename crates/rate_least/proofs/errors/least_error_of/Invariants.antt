use Rattle.std.proofs.Common.{◌≡◌, ◌<◌, ◌^◌, drop}
use Rattle.rate_table.specs.Table.{least}
use Rattle.rate_table.proofs.Chosen.{least_from}
use Rattle.rate_least.proofs.errors.least_error_of.Given as goal

abbrev pub invariant-loop-entry : goal.invariant-loop-entry
invariant-loop-entry l = record {
  value : least_from (λ x. x.error) l.least (drop l.entry-index l.entries) ≡ least (λ x. x.error) l.entries;
  small : l.least < 2 ^ 43;
}
