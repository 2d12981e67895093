use Rattle.pr_head.proofs.Again.{frame-again}
use Rattle.pr_head.proofs.laws.frame_header_is_read_again.Goals as goal

pub returns : goal.returns
returns c = frame-again
