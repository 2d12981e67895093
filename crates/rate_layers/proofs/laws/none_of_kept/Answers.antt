use Rattle.rate_layers.proofs.Produced.{above_kept_law}
use Rattle.rate_layers.proofs.laws.none_of_kept.Goals as goal

pub returns : goal.returns
returns c = above_kept_law
