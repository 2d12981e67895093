use Rattle.pr_quant.proofs.NearestLemmas.{one_nearest}
use Rattle.pr_quant.proofs.laws.one_is_nearest.Goals as goal

pub returns : goal.returns
returns c = one_nearest
