use Rattle.std.proofs.Common.{pos, sym, ◌∙◌, arith}
use Rattle.std.proofs.lemmas.List.{ext_get_or}
use Rattle.rate_build.proofs.transform.narrowed.Goals as goal

pub returns : goal.returns
returns c = ext_get_or (pos 0) c.loop-place.narrow c.args.block.now (c.loop-place.invariant.whole ∙ sym c.told-block) (λ k l. c.loop-place.invariant.values k (omega (arith, l, c.loop-place.invariant.whole)))
