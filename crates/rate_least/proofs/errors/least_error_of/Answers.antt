use Rattle.std.proofs.Common.{rules}
use Rattle.rate_table.proofs.Chosen.{least_from-first}
use Rattle.rate_least.proofs.errors.least_error_of.Goals as goal

pub loop-entry-init : goal.loop-entry-init
loop-entry-init c = record {
  value = least_from-first (λ x. x.error) _ c.args.entries.now c.requires.some;
  small = search rules;
}
