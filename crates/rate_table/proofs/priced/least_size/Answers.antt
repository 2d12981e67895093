use Rattle.rate_table.proofs.Chosen.{least_from-first}
use Rattle.rate_table.proofs.priced.least_size.Goals as goal

pub loop-entry-init : goal.loop-entry-init
loop-entry-init c = least_from-first (λ x. x.size) _ c.args.entries.now c.requires
