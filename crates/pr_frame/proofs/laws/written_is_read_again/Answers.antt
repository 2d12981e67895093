use Rattle.std.proofs.Common.{ap}
use Rattle.std.specs.Result.{result_err}
use Rattle.pr_frame.specs.Reading.{frame_of}
use Rattle.pr_frame.specs.Written.{coded_bytes}
use Rattle.pr_frame.proofs.WholeStanding.{frame-found, frame-again, same-frame}
use Rattle.pr_frame.proofs.WrittenAgain.{frame-written}
use Rattle.pr_frame.proofs.laws.written_is_read_again.Goals as goal

pub returns : goal.returns
returns c = λ f has w.
    let read = frame-written f has w in record {
      stands = frame-found (coded_bytes f) f read;
      only = λ g s. same-frame g f (frame_of (coded_bytes f)) (frame-again (coded_bytes f) g s) read;
      no_fault = ap result_err read;
    }
