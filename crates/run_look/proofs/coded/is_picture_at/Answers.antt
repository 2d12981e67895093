use Rattle.std.proofs.Common.{◌≡◌, length, sym, subst, ap, ◌∙◌}
use Rattle.std.specs.List.{All}
use Rattle.std.proofs.lemmas.List.Elements.{All-take, All-drop}
use Rattle.rate_build.specs.Coefficients.{FrameCoefficients}
use Rattle.rate_build.specs.Coding.{coded_slices, coded_picture, weights_in}
use Rattle.rate_build.specs.Tables.{HasParts}
use Rattle.rate_build.proofs.Whole.{parts_of}
use Rattle.run_look.proofs.Alike.{picture_same}
use Rattle.run_look.proofs.coded.is_picture_at.Goals as goal

pub are_slices_at-requires-clause-parts : goal.are_slices_at-requires-clause-parts
are_slices_at-requires-clause-parts c = All-take HasParts _ _ (All-drop HasParts _ _ (subst (All HasParts) (sym c.as_slice-all.ensures) (parts_of _ _ _ _ c.coefficients.invariant)))

pub returns-then-coded-coefficients : goal.returns-then-coded-coefficients
returns-then-coded-coefficients c =
    let v : FrameCoefficients = record { layout = c.coefficients.inside.layout; alpha = c.coefficients.inside.alpha; slices = c.coefficients.inside.slices } in
    let h = c.args.header.now in
    let choice = c.args.choice.now in
    let x = c.args.coded.now in
    let number = c.requires.number ∙ sym (ap (λ (v : FrameCoefficients). length v.slices) c.coefficients.view_is) in
    let same = picture_same v h choice c.args.picture _ _ _ x number c.slices-count.ensures.value c.from.ensures c.as_slice-all.ensures c.if-coded-coefficients.true in
    let is : coded_picture v (coded_slices (weights_in h) v.slices choice) c.args.picture ≡ coded_picture c.args.coefficients.now (coded_slices (weights_in h) c.args.coefficients.now.slices choice) c.args.picture =
    ap (λ (v : FrameCoefficients). coded_picture v (coded_slices (weights_in h) v.slices choice) c.args.picture) c.coefficients.view_is in (
      (λ t. same.0 (sym c.as_slice.ensures ∙ c.are_slices_at.ensures.0 t) ∙ is),
      (λ e. c.are_slices_at.ensures.1 (c.as_slice.ensures ∙ same.1 (e ∙ sym is))),
    )
