use Rattle.pr_head.proofs.Again.{slice-again}
use Rattle.pr_head.proofs.laws.slice_header_is_read_again.Goals as goal

pub returns : goal.returns
returns c = slice-again
