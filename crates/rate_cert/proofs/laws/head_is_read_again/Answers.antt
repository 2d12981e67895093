use Rattle.rate_cert.proofs.Headed.{head-again}
use Rattle.rate_cert.proofs.laws.head_is_read_again.Goals as goal

pub returns : goal.returns
returns c = head-again
