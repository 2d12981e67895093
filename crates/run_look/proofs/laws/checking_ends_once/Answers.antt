use Rattle.run_look.proofs.Once.{ends-once}
use Rattle.run_look.proofs.laws.checking_ends_once.Goals as goal

pub returns : goal.returns
returns c = ends-once
