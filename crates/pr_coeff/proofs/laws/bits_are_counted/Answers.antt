use Rattle.pr_coeff.proofs.KnownLemmas.{known_none, known_behind_zero, known_behind_value, known_all}
use Rattle.pr_coeff.proofs.LengthLemmas.{component_bytes}
use Rattle.pr_coeff.proofs.laws.bits_are_counted.Goals as goal

pub returns-clause-first : goal.returns-clause-first
returns-clause-first c = known_none

pub returns-clause-zero : goal.returns-clause-zero
returns-clause-zero c = known_behind_zero

pub returns-clause-value : goal.returns-clause-value
returns-clause-value c = known_behind_value

pub returns-clause-last : goal.returns-clause-last
returns-clause-last c = known_all

pub returns-clause-bytes : goal.returns-clause-bytes
returns-clause-bytes c = component_bytes
