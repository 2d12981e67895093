use Rattle.rate_layers.proofs.Counts.{kept_less}
use Rattle.rate_layers.proofs.laws.kept_is_filter.Goals as goal

pub returns : goal.returns
returns c = λ t m u v k a b l f r g. kept_less t m u v k a b l f r g
