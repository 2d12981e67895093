use Rattle.std.proofs.Common.{rules, ◌≡◌, ◌*◌, ◌/◌, ◌∙◌, ap, arith, length, mul-div_cancel}
use Rattle.run_look.proofs.checking.frames_of.Goals as goal

pub returns-clause-few : goal.returns-clause-few
returns-clause-few c =
    let t = c.requires.good.table in
    let of_frame = c.frame_slices.result in
    let is : length c.as_slice.result.now ≡ t.frames * of_frame = search rules in
    let e : length c.as_slice.result.now / of_frame ≡ t.frames = ap (λ n. n / of_frame) is ∙ mul-div_cancel t.frames {n = of_frame} c.frame_slices.ensures.some in
    omega (arith, e, t.few, c.requires.settings.group_to)
