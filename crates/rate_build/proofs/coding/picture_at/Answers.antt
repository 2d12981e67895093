use Rattle.std.proofs.Common.{length, sym, subst, ap, ◌∙◌}
use Rattle.std.specs.List.{All}
use Rattle.std.proofs.lemmas.List.Elements.{All-take, All-drop}
use Rattle.pr_frame.specs.Coded.{IsWritableSlice}
use Rattle.rate_build.specs.Coefficients.{FrameCoefficients}
use Rattle.rate_build.specs.Coding.{coded_slices, coded_picture, weights_in}
use Rattle.rate_build.specs.Tables.{HasParts}
use Rattle.rate_build.proofs.Whole.{parts_of}
use Rattle.rate_build.proofs.Chosen.{picture_is}
use Rattle.rate_build.proofs.coding.picture_at.Goals as goal

pub slices_at-requires-clause-parts : goal.slices_at-requires-clause-parts
slices_at-requires-clause-parts c = All-take HasParts _ _ (All-drop HasParts _ _ (subst (All HasParts) (sym c.as_slice-all.ensures) (parts_of _ _ _ _ c.coefficients.invariant)))

pub returns-clause-value : goal.returns-clause-value
returns-clause-value c =
    let v : FrameCoefficients = record { layout = c.coefficients.inside.layout; alpha = c.coefficients.inside.alpha; slices = c.coefficients.inside.slices } in
    let h = c.args.header.now in
    let choice = c.args.choice.now in
    let number = c.requires.number ∙ sym (ap (λ (v : FrameCoefficients). length v.slices) c.coefficients.view_is) in
    picture_is v h choice c.args.picture _ _ _ c.from_vec.result number c.slices-count.ensures.value c.from.ensures c.as_slice-all.ensures (c.from_vec.ensures ∙ c.in_ok-coded.ensures.value)
    ∙ ap (λ (v : FrameCoefficients). coded_picture v (coded_slices (weights_in h) v.slices choice) c.args.picture) c.coefficients.view_is

pub returns-clause-small : goal.returns-clause-small
returns-clause-small c = subst (All IsWritableSlice) (sym c.from_vec.ensures) c.in_ok-coded.ensures.small
