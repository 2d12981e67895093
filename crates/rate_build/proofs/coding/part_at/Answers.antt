use Rattle.std.proofs.Common.{get_or, map, sym, subst, ap, ◌∙◌, arith}
use Rattle.std.proofs.lemmas.List.{take_all}
use Rattle.rate_build.specs.Measures.{quantised_block, IsFrameMultiplier}
use Rattle.rate_build.proofs.Small.{are_multipliers}
use Rattle.rate_build.proofs.Chosen.{part_is, blocks_writable}
use Rattle.rate_build.proofs.coding.part_at.Goals as goal

pub quantise_block-requires-clause-multipliers : goal.quantise_block-requires-clause-multipliers
quantise_block-requires-clause-multipliers c = λ p h.
    subst (λ ms. IsFrameMultiplier (get_or ms p 0)) (sym c.multipliers_of-multipliers.ensures) (are_multipliers c.args.weights.now c.args.index c.told-weights c.requires.weights c.requires.index.least c.requires.index.most p h)

pub returns : goal.returns
returns c =
    let ms = c.multipliers_of-multipliers.result in
    let all = c.loop-block.invariant ∙ ap (map (quantised_block ms)) (take_all _ _ (omega arith)) in
    record {
      value = part_is c.args.weights.now c.args.index c.args.blocks.now c.loop-block.quantised.items ms c.multipliers_of-multipliers.ensures all;
      small = blocks_writable ms
          (λ p h. subst (λ ms. IsFrameMultiplier (get_or ms p 0)) (sym c.multipliers_of-multipliers.ensures) (are_multipliers c.args.weights.now c.args.index c.told-weights c.requires.weights c.requires.index.least c.requires.index.most p h))
          c.args.blocks.now c.loop-block.quantised.items c.requires.part.each all;
    }
