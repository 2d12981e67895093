use Rattle.rate_cert.proofs.SpelledHead.{head-spelled}
use Rattle.rate_cert.proofs.laws.head_is_spelled.Goals as goal

pub returns : goal.returns
returns c = head-spelled
