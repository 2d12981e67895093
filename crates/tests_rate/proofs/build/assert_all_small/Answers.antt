use Rattle.std.proofs.Common.{arith}
use Rattle.pr_coeff.proofs.WovenLemmas.{AreBlocks_from}
use Rattle.tests_rate.proofs.build.assert_all_small.Goals as goal

pub returns : goal.returns
returns g c = AreBlocks_from c.args.blocks.now (λ i l. (c.told-blocks i l, c.loop-block.invariant i (omega (arith, l))))
