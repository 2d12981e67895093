use Rattle.pw_bits.proofs.BitsLemmas.{bits-bytes, bytes-bits}
use Rattle.pw_bits.proofs.laws.bytes_are_bits.Goals as goal

pub returns-clause-there : goal.returns-clause-there
returns-clause-there c = bits-bytes

pub returns-clause-back : goal.returns-clause-back
returns-clause-back c = bytes-bits
