use Rattle.monitors.proofs.Counts.{runs_have_all}
use Rattle.monitors.proofs.laws.runs_have_all_black_pictures.Goals as goal

pub returns : goal.returns
returns c = runs_have_all
