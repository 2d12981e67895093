use Rattle.rate_layers.proofs.Produced.{produced_full}
use Rattle.rate_layers.proofs.laws.full_is_good.Goals as goal

pub returns : goal.returns
returns c = λ t b m layers ok best a. produced_full t ok b best m layers a
