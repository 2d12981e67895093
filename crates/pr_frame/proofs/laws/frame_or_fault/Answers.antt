use Rattle.pr_frame.proofs.WholeStanding.{frame-or-fault}
use Rattle.pr_frame.proofs.laws.frame_or_fault.Goals as goal

pub returns : goal.returns
returns c = frame-or-fault
