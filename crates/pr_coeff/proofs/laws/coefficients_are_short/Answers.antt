use Rattle.pr_coeff.proofs.TripleLemmas.{coefficients_short}
use Rattle.pr_coeff.proofs.laws.coefficients_are_short.Goals as goal

pub returns : goal.returns
returns c = coefficients_short
