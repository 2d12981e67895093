use Rattle.std.proofs.Common.{arith}
use Rattle.pr_coeff.proofs.WovenLemmas.{AllSmall_from}
use Rattle.tests_rate.proofs.build.assert_small.Goals as goal

pub returns : goal.returns
returns g c = AllSmall_from c.args.block.now (λ k l. c.loop-place.invariant k (omega (arith, l)))
