use Rattle.std.proofs.Common.{◌≡◌, ◌++◌, map, take, ◌∙◌, arith}
use Rattle.std.proofs.lemmas.List.{take_all}
use Rattle.pr_geom.specs.Layout.{slices_of}
use Rattle.rate_build.specs.Coefficients.{planes_of, slice_coefficients, picture_coefficients}
use Rattle.rate_build.proofs.transform.add_slices.Goals as goal

pub returns : goal.returns
unfolding picture_coefficients
returns c =
    let f = slice_coefficients (planes_of c.args.picture.now) c.args.picture.now.depth c.args.layout.now.chroma in
    let all : take c.loop-number.number (slices_of c.args.layout.now) ≡ slices_of c.args.layout.now = take_all _ _ (omega (arith, c.loop-number-test.false, c.slices-count.ensures.value)) in
    c.loop-number.invariant ∙ (λ j. c.reserve.ensures.items j ++ map f (all j))
