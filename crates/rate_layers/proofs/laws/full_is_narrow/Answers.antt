use Rattle.rate_layers.proofs.Counts.{full_length}
use Rattle.rate_layers.proofs.laws.full_is_narrow.Goals as goal

pub returns : goal.returns
returns c = λ t k layer f. full_length t k layer f
