use Rattle.pr_head.proofs.Again.{picture-again}
use Rattle.pr_head.proofs.laws.picture_header_is_read_again.Goals as goal

pub returns : goal.returns
returns c = picture-again
