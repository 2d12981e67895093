use Rattle.std.proofs.Common.{ℕ, sym, ◌∙◌, ◌*◌, arith, map}
use Rattle.std.proofs.lemmas.List.{ext_get_or, get_or-map, length-map}
use Rattle.pr_quant.specs.Quantised.{scale_of}
use Rattle.pr_quant.specs.Errors.{multipliers}
use Rattle.pr_quant.proofs.multipliers_of.Goals as goal

pub returns : goal.returns
unfolding multipliers
returns c =
    let f : ℕ → ℕ = λ w. w * scale_of c.args.index in
    ext_get_or 0 c.loop-place.products (map f c.args.weights.now) (c.loop-place.invariant.whole ∙ sym (length-map c.args.weights.now f ∙ c.told-weights))
    (λ k l. c.loop-place.invariant.values k (omega arith) ∙ sym (get_or-map f c.args.weights.now k 0 0 (omega arith)))
