use Rattle.run_look.proofs.Staying.{stays}
use Rattle.run_look.proofs.laws.proof_stays_as_it_is.Goals as goal

pub returns : goal.returns
returns c = stays
