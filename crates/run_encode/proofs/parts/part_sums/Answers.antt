use Rattle.run_encode.proofs.Sums.{sums-one}
use Rattle.run_encode.proofs.parts.part_sums.Goals as goal

pub returns-clause-size : goal.returns-clause-size
returns-clause-size c = λ entries is has. (sums-one c.indices_tell_choice.ensures _ c.requires.some c.requires.few c.requires.each _ _ _ c.in-Some.ensures.some entries is has).0

pub returns-clause-error : goal.returns-clause-error
returns-clause-error c = λ entries is has. (sums-one c.indices_tell_choice.ensures _ c.requires.some c.requires.few c.requires.each _ _ _ c.in-Some.ensures.some entries is has).1
