use Rattle.pr_frame.proofs.Short.{length-written}
use Rattle.pr_frame.proofs.laws.written_has_length.Goals as goal

pub returns : goal.returns
returns c = length-written
