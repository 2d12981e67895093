use Rattle.rate_cert.proofs.Filed.{proof-again}
use Rattle.rate_cert.proofs.laws.proof_is_read_again.Goals as goal

pub returns : goal.returns
returns c = proof-again
