use Rattle.rate_layers.proofs.Wholes.{kept_are_fewer}
use Rattle.rate_layers.proofs.laws.kept_are_fewer.Goals as goal

pub returns : goal.returns
returns c = kept_are_fewer
