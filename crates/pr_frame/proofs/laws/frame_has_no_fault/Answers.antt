use Rattle.std.proofs.Common.{ap}
use Rattle.std.specs.Result.{result_err}
use Rattle.pr_frame.proofs.WholeStanding.{frame-again}
use Rattle.pr_frame.proofs.laws.frame_has_no_fault.Goals as goal

pub returns : goal.returns
returns c = λ sample f a. ap result_err (frame-again sample f a)
