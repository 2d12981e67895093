use Rattle.std.proofs.Common.{get_or, sym, subst}
use Rattle.rate_build.specs.Measures.{IsFrameMultiplier}
use Rattle.rate_build.proofs.Small.{are_multipliers}
use Rattle.rate_build.proofs.Chosen.{part_is}
use Rattle.rate_build.proofs.Writable.{part_ready}
use Rattle.rate_build.proofs.writing.quantise_part.Goals as goal

pub quantise_blocks-requires-clause-multipliers : goal.quantise_blocks-requires-clause-multipliers
quantise_blocks-requires-clause-multipliers c = λ p h.
    subst (λ ms. IsFrameMultiplier (get_or ms p 0)) (sym c.multipliers_of-multipliers.ensures) (are_multipliers c.args.weights.now c.args.index c.told-weights c.requires.weights c.requires.index.least c.requires.index.most p h)

pub returns : goal.returns
returns c = record {
  value = part_is c.args.weights.now c.args.index c.args.blocks.now _ c.multipliers_of-multipliers.result c.multipliers_of-multipliers.ensures c.quantise_blocks.ensures.value;
  ready = part_ready c.args.weights.now c.args.index c.args.blocks.now c.told-weights c.requires.weights c.requires.index c.requires.part;
}
