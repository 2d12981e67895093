use Rattle.rate_layers.proofs.Picks.{multiplier_exists}
use Rattle.rate_layers.proofs.laws.multiplier_exists.Goals as goal

pub returns : goal.returns
returns c = λ t c ok h f. multiplier_exists t ok c h f
