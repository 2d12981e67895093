use Rattle.std.proofs.Common.{◌+◌, ◌*◌, ◌<◌, ◌≤◌, length, get_or, sym, subst, ap, ◌∙◌, arith}
use Rattle.pr_geom.specs.Layout.{slices_of}
use Rattle.pr_geom.specs.Slices.{pictures_of}
use Rattle.rate_build.specs.Coefficients.{FrameCoefficients}
use Rattle.rate_build.proofs.Whole.{picture_inside}
use Rattle.rate_check.proofs.Answered.{yes, granted}
use Rattle.run_look.proofs.Alike.{frame_whole}
use Rattle.run_look.proofs.coded.is_coded.Goals as goal

pub is_picture_at-requires-clause-inside : goal.is_picture_at-requires-clause-inside
is_picture_at-requires-clause-inside c =
    let v : FrameCoefficients = record { layout = c.coefficients.inside.layout; alpha = c.coefficients.inside.alpha; slices = c.coefficients.inside.slices } in
    let k = c.loop-number.number in
    let few : k < pictures_of c.coefficients.inside.layout.interlace = omega (arith, c.loop-number-test.true, c.pictures-count.ensures) in
    subst (λ (v : FrameCoefficients). length (slices_of v.layout) * k + length (slices_of v.layout) ≤ length v.slices) c.coefficients.view_is (picture_inside v k c.coefficients.invariant few)

pub returns : goal.returns
returns c =
    let v = c.args.coefficients.now in
    let header = granted c.same_header.result c.same_header.ensures c.if-not-same_header.false in
    let count = c.pictures-count.ensures ∙ ap (λ (v : FrameCoefficients). pictures_of v.layout.interlace) c.coefficients.view_is in
    let pictures = c.as_slice-pictures.ensures in
    let number = ap length (sym pictures) ∙ c.if-pictures-from.false ∙ c.from.ensures ∙ count in
    yes (frame_whole v c.args.header.now c.args.choice.now c.args.frame.now header number
    (λ k d l. ap (λ x. get_or x k d) (sym pictures) ∙ c.loop-number.invariant k d (omega (arith, l, count, c.loop-number-test.false))))
