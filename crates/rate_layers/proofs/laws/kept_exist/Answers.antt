use Rattle.rate_layers.proofs.Wholes.{kept_exist}
use Rattle.rate_layers.proofs.laws.kept_exist.Goals as goal

pub returns : goal.returns
returns c = kept_exist
