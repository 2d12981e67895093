use Rattle.rate_table.specs.Pairs.{CanFit}
use Rattle.rate_layers.proofs.Fronts.{front_layer}
use Rattle.rate_layers.proofs.Exists.{full_front}
use Rattle.rate_layers.proofs.Asked.{full_test, layer_step}
use Rattle.rate_layers.proofs.laws.full_is_merged.Goals as goal

pub returns : goal.returns
returns c = λ t k layer next h f g. front_layer _ next (layer_step t 0 (CanFit t) (full_test t 0) k layer next h (full_front t k layer f) g)
