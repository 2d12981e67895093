use Rattle.pr_frame.specs.Reading.{frame_of}
use Rattle.pr_frame.proofs.WholeStanding.{frame-again, same-frame}
use Rattle.pr_frame.proofs.laws.one_frame.Goals as goal

pub returns : goal.returns
returns c = λ sample f g a b. same-frame f g (frame_of sample) (frame-again sample f a) (frame-again sample g b)
