use Rattle.pr_alpha.proofs.RowLemmas.{stands_again}
use Rattle.pr_alpha.proofs.laws.alpha_is_read_again.Goals as goal

pub returns : goal.returns
returns c = stands_again
