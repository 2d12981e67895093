use Rattle.rate_layers.proofs.Produced.{best_full_law}
use Rattle.rate_layers.proofs.laws.best_of_full.Goals as goal

pub returns : goal.returns
returns c = best_full_law
