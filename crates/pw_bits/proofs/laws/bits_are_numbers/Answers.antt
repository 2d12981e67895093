use Rattle.pw_bits.proofs.BitsLemmas.{value_of_bits, bits_of-value}
use Rattle.pw_bits.proofs.laws.bits_are_numbers.Goals as goal

pub returns-clause-there : goal.returns-clause-there
returns-clause-there c = value_of_bits

pub returns-clause-back : goal.returns-clause-back
returns-clause-back c = bits_of-value
