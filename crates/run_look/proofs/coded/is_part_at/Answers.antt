use Rattle.std.proofs.Common.{get_or, sym, subst, arith}
use Rattle.rate_build.specs.Measures.{IsFrameMultiplier}
use Rattle.rate_build.proofs.Small.{are_multipliers}
use Rattle.rate_check.proofs.Answered.{yes, no, denied}
use Rattle.run_look.proofs.Alike.{part_number, part_at, part_whole}
use Rattle.run_look.proofs.coded.is_part_at.Goals as goal

pub returns-then-coded-blocks : goal.returns-then-coded-blocks
returns-then-coded-blocks c = no (λ e. c.if-coded-blocks.true (part_number c.args.weights.now c.args.index c.args.blocks.now c.args.coded.now e))

pub is_quantised-requires-clause-multipliers : goal.is_quantised-requires-clause-multipliers
is_quantised-requires-clause-multipliers c = λ p h.
    subst (λ ms. IsFrameMultiplier (get_or ms p 0)) (sym c.multipliers_of-multipliers.ensures) (are_multipliers c.args.weights.now c.args.index c.told-weights c.requires.weights c.requires.index.least c.requires.index.most p h)

pub returns-then-not-is_quantised : goal.returns-then-not-is_quantised
returns-then-not-is_quantised c = no (λ e.
    denied c.is_quantised.result c.is_quantised.ensures c.if-not-is_quantised.true
    (part_at c.args.weights.now c.args.index c.args.blocks.now c.args.coded.now c.multipliers_of-multipliers.result c.loop-i.i c.multipliers_of-multipliers.ensures c.loop-i-test.true e))

pub returns : goal.returns
returns c = yes (part_whole c.args.weights.now c.args.index c.args.blocks.now c.args.coded.now c.multipliers_of-multipliers.result c.multipliers_of-multipliers.ensures c.if-coded-blocks.false
    (λ k l. c.loop-i.invariant k (omega arith)))
