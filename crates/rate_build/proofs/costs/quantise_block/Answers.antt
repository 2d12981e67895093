use Rattle.std.proofs.Common.{get_or, pos, ap, ◌∙◌, sym, refl, rules, arith}
use Rattle.pr_quant.proofs.ErrorLemmas.{errors_none, errors_more, errors_all}
use Rattle.rate_build.proofs.Quantising.{block_filled, kept, value_more}
use Rattle.pr_quant.specs.Quantised.{quantised, error_of}
use Rattle.rate_build.proofs.costs.quantise_block.Goals as goal

pub returns-clause-value : goal.returns-clause-value
returns-clause-value c = block_filled c.args.multipliers.now c.args.block.now c.loop-place.quantised c.loop-place.invariant.whole (λ k l. c.loop-place.invariant.values k (omega arith))

pub returns-clause-error : goal.returns-clause-error
returns-clause-error c = c.loop-place.invariant.error ∙ errors_all c.args.multipliers.now c.args.block.now c.loop-place.place (omega arith)

pub loop-place-init : goal.loop-place-init
loop-place-init c = record { whole = search rules; values = λ k l. absurd (omega arith); error = sym (errors_none c.args.multipliers.now c.args.block.now); small = omega arith }

pub loop-place-preserved : goal.loop-place-preserved
loop-place-preserved c =
    let q = c.quantise_value-value.ensures in
    let inv = c.loop-place.invariant in
    let m = get_or c.args.multipliers.now c.loop-place.place 0 in
    let read = kept (get_or c.args.block.now c.loop-place.place (pos 0)) (c.requires.block c.loop-place.place c.loop-place-test.true) in
    let value = q.value ∙ ap (λ v. quantised v m) read in
    let error = q.error ∙ ap (λ v. error_of v m) read in
    let more = errors_more c.args.multipliers.now c.args.block.now c.loop-place.place in
    let next = value_more c.args.multipliers.now c.args.block.now c.loop-place.quantised c.loop-place.place c.quantise_value-value.result.0 _ inv.whole c.loop-place-test.true q.within value refl inv.values in
    record { whole = next.0; values = next.1; error = omega (arith, more, inv.error, error); small = omega (arith, inv.small, q.small) }
