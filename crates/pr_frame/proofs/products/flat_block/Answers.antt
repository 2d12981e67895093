use Rattle.std.proofs.Common.{rules, ◌≡◌, ◌^◌, ◌*◌, ◌∙◌, ap, arith, get_or, pos, lit<, to_z, of_z, to_z-of_z, w16, w32}
use mir.Val.{SFits}
use Rattle.pr_quant.specs.Quantised.{dequantised, scale_of}
use Rattle.pr_dct.specs.Transform.{rounded, flat}
use Rattle.pr_dct.proofs.SumLemmas.{kept32}
use Rattle.pr_frame.proofs.FlatBlocks.{flat_shown}
use Rattle.pr_frame.proofs.products.flat_block.Goals as goal

pub returns : goal.returns
returns c =
    let w = c.args.weights.now in
    let b = c.args.block.now in
    let q = c.dequantise-product.result in
    let f : SFits w32 c.flat_sample.result = search rules in
    let first : to_z w16 (of_z w16 (get_or b 0 (pos 0))) ≡ get_or b 0 (pos 0) = search rules in
    let product : to_z w32 (of_z w32 q) ≡ dequantised (get_or b 0 (pos 0)) (get_or w 0 0 * scale_of c.args.index) =
    kept32 q (2 ^ 19) (omega (arith, c.dequantise-product.ensures.within)) (lit< tt) ∙ c.dequantise-product.ensures.value
    ∙ ap (λ v. dequantised v (c.from.result * c.scale.result)) first ∙ ap (λ m. dequantised (get_or b 0 (pos 0)) (m * c.scale.result)) c.from.ensures
    ∙ ap (λ m. dequantised (get_or b 0 (pos 0)) (get_or w 0 0 * m)) c.scale.ensures in
    flat_shown c.args.depth w c.args.index b (to_z w32 (of_z w32 c.flat_sample.result)) c.sample_out.result c.requires.flat
    (to_z-of_z f ∙ c.flat_sample.ensures ∙ ap (λ z. rounded (flat z)) product) c.sample_out.ensures.value
