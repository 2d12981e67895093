use Rattle.pr_frame.specs.Written.{coded_bytes}
use Rattle.pr_frame.proofs.WholeStanding.{frame-found}
use Rattle.pr_frame.proofs.WrittenAgain.{frame-written}
use Rattle.pr_frame.proofs.laws.written_stands.Goals as goal

pub returns : goal.returns
returns c = λ f has w. frame-found (coded_bytes f) f (frame-written f has w)
