use Rattle.rate_table.proofs.Best.{best_exists}
use Rattle.rate_table.proofs.laws.best_exists.Goals as goal

pub returns : goal.returns
returns c = best_exists
