use Rattle.std.proofs.Common.{pos, get_or, ◌*◌, arith}
use Rattle.std.proofs.lemmas.List.FromFn.{fill_by_all}
use Rattle.pr_quant.specs.Quantised.{scale_of, dequantised}
use Rattle.pr_frame.proofs.products.wide_products.Goals as goal

pub returns-clause-value : goal.returns-clause-value
returns-clause-value c =
    fill_by_all (λ p. dequantised (get_or c.args.block.now p (pos 0)) (get_or c.args.weights.now p 0 * scale_of c.args.index)) c.loop-place.products 64 (pos 0) c.loop-place.invariant.whole
    (λ k h. c.loop-place.invariant.values k (omega arith))
