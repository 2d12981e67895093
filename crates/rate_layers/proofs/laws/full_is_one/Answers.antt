use Rattle.rate_layers.proofs.Fronts.{one_layer}
use Rattle.rate_layers.proofs.laws.full_is_one.Goals as goal

pub returns : goal.returns
returns c = λ t k a b. one_layer _ a b
