use Rattle.std.proofs.Common.{refl}
use Rattle.pw_bits.proofs.ReadingLemmas.{front-parts}
use Rattle.pw_bits.proofs.byte.zeros_in_front.Goals as goal

pub overflow_sub-result : goal.overflow_sub-result
overflow_sub-result c = (front-parts c.args.count c.args.low c.requires.size c.requires.fits _ refl).0

pub returns-clause-small : goal.returns-clause-small
returns-clause-small c = (front-parts c.args.count c.args.low c.requires.size c.requires.fits _ refl).2

pub returns-clause-one : goal.returns-clause-one
returns-clause-one c = (front-parts c.args.count c.args.low c.requires.size c.requires.fits _ refl).3

pub returns-clause-none : goal.returns-clause-none
returns-clause-none c = (front-parts c.args.count c.args.low c.requires.size c.requires.fits _ refl).4
