use Rattle.std.proofs.Common.{rules, ◌≡◌, length, ap, ◌∙◌, arith}
use Rattle.run_look.proofs.Parts.{part_inside, cut_long}
use Rattle.run_look.proofs.comparing.slices_for.Goals as goal

pub cut_slices-requires : goal.cut_slices-requires
cut_slices-requires c =
    let same : length c.as_slice.result.now ≡ length c.args.group.now.table.slices = search rules in
    let inside = part_inside c.args.settings.now c.args.group.now c.frame_slices-count.result c.args.k c.requires.good c.frame_slices-count.ensures.value c.frame_slices-count.ensures.some c.requires.there in
    omega (arith, same, inside)

pub returns-clause-number : goal.returns-clause-number
returns-clause-number c =
    let same : length c.as_slice.result.now ≡ length c.args.group.now.table.slices = search rules in
    let inside = part_inside c.args.settings.now c.args.group.now c.frame_slices-count.result c.args.k c.requires.good c.frame_slices-count.ensures.value c.frame_slices-count.ensures.some c.requires.there in
    ap length c.cut_slices.ensures ∙ cut_long c.frame_slices-count.result c.args.k c.as_slice.result.now (omega (arith, same, inside)) ∙ c.frame_slices-count.ensures.value
