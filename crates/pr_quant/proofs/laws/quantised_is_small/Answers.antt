use Rattle.pr_quant.proofs.NearestLemmas.{quantised_small}
use Rattle.pr_quant.proofs.laws.quantised_is_small.Goals as goal

pub returns : goal.returns
returns c = quantised_small
