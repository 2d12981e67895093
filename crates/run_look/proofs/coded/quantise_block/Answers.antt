use Rattle.std.proofs.Common.{get_or, pos, ap, ◌∙◌, refl, arith}
use Rattle.pr_quant.specs.Quantised.{quantised}
use Rattle.rate_build.proofs.Quantising.{block_filled, kept, value_more}
use Rattle.run_look.proofs.coded.quantise_block.Goals as goal

pub returns : goal.returns
returns c = block_filled c.args.multipliers.now c.args.block.now c.loop-place.values c.loop-place.invariant.whole (λ k l. c.loop-place.invariant.each k (omega arith))

pub loop-place-preserved : goal.loop-place-preserved
loop-place-preserved c =
    let q = c.quantise_value.ensures in
    let inv = c.loop-place.invariant in
    let m = get_or c.args.multipliers.now c.loop-place.place 0 in
    let read = kept (get_or c.args.block.now c.loop-place.place (pos 0)) (c.requires.block c.loop-place.place c.loop-place-test.true) in
    let value = q.value ∙ ap (λ v. quantised v m) read in
    let next = value_more c.args.multipliers.now c.args.block.now c.loop-place.values c.loop-place.place c.quantise_value.result _ inv.whole c.loop-place-test.true q.within value refl inv.each in
    record { whole = next.0; each = next.1 }
