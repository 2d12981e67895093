use Rattle.rate_least.proofs.ReadAgain.{certificate-again}
use Rattle.rate_least.proofs.laws.certificate_is_read_again.Goals as goal

pub returns : goal.returns
returns c = certificate-again
