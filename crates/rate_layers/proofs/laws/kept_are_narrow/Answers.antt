use Rattle.rate_layers.proofs.Wholes.{kept_narrow}
use Rattle.rate_layers.proofs.laws.kept_are_narrow.Goals as goal

pub returns : goal.returns
returns c = kept_narrow
