use Rattle.std.proofs.Common.{ap, map, ◌∙◌, arith}
use Rattle.std.proofs.lemmas.List.{take_all}
use Rattle.rate_build.specs.Coefficients.{coefficients_at, part_coefficients}
use Rattle.rate_build.proofs.transform.part_of.Goals as goal

pub returns-clause-value : goal.returns-clause-value
unfolding part_coefficients
returns-clause-value c = c.loop-k.invariant.value ∙ ap (map (coefficients_at c.args.plane.now c.args.depth)) (take_all _ _ (omega (arith, c.blocks-count.ensures.value)))
