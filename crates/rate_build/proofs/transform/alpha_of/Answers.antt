use Rattle.rate_build.specs.Coefficients.{alpha_values}
use Rattle.rate_build.proofs.transform.alpha_of.Goals as goal

pub returns-in-None : goal.returns-in-None
unfolding alpha_values
returns-in-None c = rw c.in-None.is c.new.ensures.items
