use Rattle.pr_alpha.proofs.RowLemmas.{alpha_cost}
use Rattle.pr_alpha.proofs.laws.alpha_is_short.Goals as goal

pub returns : goal.returns
returns c = alpha_cost
