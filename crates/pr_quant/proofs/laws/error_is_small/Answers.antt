use Rattle.pr_quant.proofs.NearestLemmas.{error_small}
use Rattle.pr_quant.proofs.laws.error_is_small.Goals as goal

pub returns : goal.returns
returns c = error_small
