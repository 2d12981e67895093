use Rattle.std.proofs.Common.{◌≡◌, drop}
use Rattle.rate_table.specs.Table.{least}
use Rattle.rate_table.proofs.Chosen.{least_from}
use Rattle.rate_table.proofs.priced.least_size.Given as goal

abbrev pub invariant-loop-entry : goal.invariant-loop-entry
invariant-loop-entry l = least_from (λ x. x.size) l.least (drop l.entry-index l.entries) ≡ least (λ x. x.size) l.entries
