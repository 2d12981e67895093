use Rattle.rescue_run.proofs.Going.{goes_on}
use Rattle.rescue_run.proofs.laws.rescuing_goes_on.Goals as goal

pub returns : goal.returns
returns c = λ file ts to le h few. goes_on c.one_frame.ensures c.frame_or_fault.ensures c.frame_has_no_fault.ensures file ts to le h few
