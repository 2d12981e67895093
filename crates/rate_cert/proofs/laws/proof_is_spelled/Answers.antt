use Rattle.rate_cert.proofs.SpelledFile.{proof-spelled}
use Rattle.rate_cert.proofs.laws.proof_is_spelled.Goals as goal

pub returns : goal.returns
returns c = proof-spelled
