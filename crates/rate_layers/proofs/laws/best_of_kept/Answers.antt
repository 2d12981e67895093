use Rattle.rate_layers.proofs.Produced.{best_kept_law}
use Rattle.rate_layers.proofs.laws.best_of_kept.Goals as goal

pub returns : goal.returns
returns c = best_kept_law
