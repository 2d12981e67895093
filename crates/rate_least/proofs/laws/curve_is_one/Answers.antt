use Rattle.rate_least.specs.Layers.{Reaches}
use Rattle.rate_least.proofs.Fronts.{one_layer}
use Rattle.rate_least.proofs.laws.curve_is_one.Goals as goal

pub returns : goal.returns
returns c = λ slices first second a b. one_layer (Reaches slices) first second a b
