use Rattle.rate_table.proofs.Best.{best_is_one}
use Rattle.rate_table.proofs.laws.best_is_one.Goals as goal

pub returns : goal.returns
returns c = best_is_one
