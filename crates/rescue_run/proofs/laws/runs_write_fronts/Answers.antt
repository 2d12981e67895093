use Rattle.rescue_run.proofs.Fronts.{fronts}
use Rattle.rescue_run.proofs.laws.runs_write_fronts.Goals as goal

pub returns : goal.returns
returns c = λ rate file end before after h. fronts c.rescuing_goes_on.ensures rate file end before after h
