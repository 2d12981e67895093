use Rattle.rate_layers.proofs.Produced.{none_full_law}
use Rattle.rate_layers.proofs.laws.none_of_full.Goals as goal

pub returns : goal.returns
returns c = none_full_law
