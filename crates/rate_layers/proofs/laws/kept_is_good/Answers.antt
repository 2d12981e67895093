use Rattle.rate_layers.proofs.Produced.{produced_kept}
use Rattle.rate_layers.proofs.laws.kept_is_good.Goals as goal

pub returns : goal.returns
returns c = λ t b m layers ok best a. produced_kept t ok b best m layers a
