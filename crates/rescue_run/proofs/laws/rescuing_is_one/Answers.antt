use Rattle.rescue_run.proofs.Once.{is_one}
use Rattle.rescue_run.proofs.laws.rescuing_is_one.Goals as goal

pub returns : goal.returns
returns c = λ file ts us end end' h k. is_one c.one_frame.ensures file ts us end end' h k
