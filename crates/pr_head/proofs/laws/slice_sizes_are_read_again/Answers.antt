use Rattle.pr_head.proofs.Again.{sizes-again}
use Rattle.pr_head.proofs.laws.slice_sizes_are_read_again.Goals as goal

pub returns : goal.returns
returns c = sizes-again
