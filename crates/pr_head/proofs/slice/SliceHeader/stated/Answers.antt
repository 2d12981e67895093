use Rattle.pr_head.specs.inner.Steps.{stated_in}
use Rattle.pr_head.proofs.slice.SliceHeader.stated.Goals as goal

pub returns-clause-value : goal.returns-clause-value
unfolding stated_in
returns-clause-value c = cc
