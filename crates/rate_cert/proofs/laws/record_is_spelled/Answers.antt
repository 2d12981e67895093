use Rattle.rate_cert.proofs.Spelled.{record-spelled}
use Rattle.rate_cert.proofs.laws.record_is_spelled.Goals as goal

pub returns : goal.returns
returns c = record-spelled
