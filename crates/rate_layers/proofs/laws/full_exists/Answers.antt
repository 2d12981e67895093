use Rattle.rate_layers.proofs.Fronts.{front_layer}
use Rattle.rate_layers.proofs.Exists.{front_full}
use Rattle.rate_layers.proofs.laws.full_exists.Goals as goal

pub returns : goal.returns
returns c = λ t k. let f = front_full t k in (f.0, front_layer _ f.0 f.1)
