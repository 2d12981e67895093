use Rattle.rate_least.proofs.Sound.{good_is_true}
use Rattle.rate_least.proofs.laws.good_is_true.Goals as goal

pub returns : goal.returns
returns c = good_is_true
