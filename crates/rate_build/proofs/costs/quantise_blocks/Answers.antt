use Rattle.std.proofs.Common.{arith}
use Rattle.rate_build.proofs.Quantising.{blocks_filled}
use Rattle.rate_build.proofs.costs.quantise_blocks.Goals as goal

pub returns-clause-value : goal.returns-clause-value
returns-clause-value c = blocks_filled c.args.multipliers.now c.args.blocks.now c.loop-i.quantised (omega (arith, c.requires.room, c.loop-i.auto.quantised)) (λ k l. c.loop-i.invariant.values k (omega arith))
