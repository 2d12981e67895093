use Rattle.rate_build.proofs.Writable.{coded_ready, choice_indices}
use Rattle.rate_build.proofs.laws.coded_can_be_written.Goals as goal

pub returns-clause-coded : goal.returns-clause-coded
returns-clause-coded c = coded_ready

pub returns-clause-indices : goal.returns-clause-indices
returns-clause-indices c = choice_indices
