use Rattle.std.proofs.Common.{◌≡◌, ◌+◌, ◌*◌, ◌<◌, ◌≤◌, [], ◌∷◌, ◌++◌, length, map, sym, subst, ap, ◌∙◌, arith}
use Rattle.std.specs.List.{All, range_with_len}
use Rattle.std.proofs.lemmas.List.Elements.{All-push}
use Rattle.std.proofs.lemmas.List.FromFn.{map-range_with_len_more}
use Rattle.pr_geom.specs.Layout.{slices_of}
use Rattle.pr_geom.specs.Slices.{pictures_of}
use Rattle.pr_frame.specs.Coded.{IsWritablePicture, IsWritable}
use Rattle.rate_build.specs.Coefficients.{FrameCoefficients, AreOfLayout}
use Rattle.rate_build.specs.Coding.{coded_slices, coded_picture, coded_frame, weights_in}
use Rattle.rate_build.proofs.Whole.{picture_inside}
use Rattle.rate_build.proofs.Writable.{frame_writable}
use Rattle.rate_build.proofs.coding.frame_at.Goals as goal

pub picture_at-requires-clause-inside : goal.picture_at-requires-clause-inside
picture_at-requires-clause-inside c =
    let v : FrameCoefficients = record { layout = c.coefficients.inside.layout; alpha = c.coefficients.inside.alpha; slices = c.coefficients.inside.slices } in
    let k = c.loop-number.number in
    let few : k < pictures_of c.coefficients.inside.layout.interlace = omega (arith, c.loop-number-test.true, c.pictures-count.ensures) in
    subst (λ (v : FrameCoefficients). length (slices_of v.layout) * k + length (slices_of v.layout) ≤ length v.slices) c.coefficients.view_is (picture_inside v k c.coefficients.invariant few)

pub loop-number-preserved : goal.loop-number-preserved
loop-number-preserved c =
    let inv = c.loop-number.invariant in
    let x = c.in_ok-picture_at.ensures in
    let k = c.loop-number.number in
    let picture = coded_picture c.args.coefficients.now (coded_slices (weights_in c.args.header.now) c.args.coefficients.now.slices c.args.choice.now) in
    rw c.in_ok-push.ensures.items (record {
      value = (λ j. inv.value j ++ x.value j ∷ []) ∙ sym (map-range_with_len_more picture 0 k k (omega arith));
      small = All-push IsWritablePicture c.loop-number.pictures.items _ inv.small x.small;
    })

pub returns : goal.returns
returns c =
    let v = c.args.coefficients.now in
    let h = c.args.header.now in
    let choice = c.args.choice.now in
    let inv = c.loop-number.invariant in
    let picture = coded_picture v (coded_slices (weights_in h) v.slices choice) in
    let last : c.loop-number.number ≡ c.pictures-count.result = omega (arith, c.loop-number-test.false, c.loop-number.auto.number-end) in
    let count = last ∙ c.pictures-count.ensures ∙ ap (λ (v : FrameCoefficients). pictures_of v.layout.interlace) c.coefficients.view_is in
    let pictures : c.from_vec.result ≡ (coded_frame v h choice).pictures = c.from_vec.ensures ∙ inv.value ∙ ap (λ n. map picture (range_with_len 0 n)) count in
    let frame : record { header = h; pictures = c.from_vec.result } ≡ coded_frame v h choice = λ j. record { header = h; pictures = pictures j } in
    let values = subst (All IsWritablePicture) (sym c.from_vec.ensures ∙ pictures) inv.small in
    let invariant = subst AreOfLayout c.coefficients.view_is c.coefficients.invariant in
    record {
      frame = frame;
      writable = subst IsWritable (sym frame) (frame_writable v h choice invariant c.requires.header c.requires.number c.requires.indices c.requires.writable values);
    }
