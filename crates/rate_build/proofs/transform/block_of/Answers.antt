use Rattle.std.proofs.Common.{ap, ◌∙◌}
use Rattle.pr_dct.specs.Transform.{coefficients}
use Rattle.rate_build.specs.Coefficients.{coefficients_at}
use Rattle.rate_build.proofs.transform.block_of.Goals as goal

pub returns-clause-value : goal.returns-clause-value
unfolding coefficients_at
returns-clause-value c = c.narrowed.ensures ∙ c.forward.ensures.value ∙ ap coefficients c.block-samples.ensures.value
