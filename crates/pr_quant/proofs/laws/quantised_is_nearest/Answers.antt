use Rattle.pr_quant.proofs.NearestLemmas.{quantised_nearest}
use Rattle.pr_quant.proofs.laws.quantised_is_nearest.Goals as goal

pub returns : goal.returns
returns c = quantised_nearest
