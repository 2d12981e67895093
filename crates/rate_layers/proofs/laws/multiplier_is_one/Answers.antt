use Rattle.rate_layers.proofs.Picks.{multiplier_same}
use Rattle.rate_layers.proofs.laws.multiplier_is_one.Goals as goal

pub returns : goal.returns
returns c = multiplier_same
