use Rattle.rate_table.proofs.ReadAgain.{body-again}
use Rattle.rate_table.proofs.laws.body_is_read_again.Goals as goal

pub returns : goal.returns
returns c = body-again
