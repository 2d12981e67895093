use Rattle.std.proofs.Common.{◌≡◌, map, ap, sym, ◌∙◌}
use Rattle.pr_geom.specs.Blocks.{blocks_of}
use Rattle.pr_frame.specs.Shown.{placed, shown_block, part_of, shown_part}
use Rattle.pr_frame.specs.inner.Placing.{with_placed}
use Rattle.pr_frame.proofs.pictures.put_slice_part.Goals as goal
use Rattle.pr_frame.proofs.pictures.put_slice_part.Goals.{in-Y, in-Cb, in-Cr}

pub returns : goal.returns
unfolding shown_part
returns c =
    let slice = c.args.slice.now in
    let blocks : c.match-part.blocks.now ≡ part_of c.args.part slice = elim c.match-part.branch [
      | in-Y w ↦ ap (λ b. b.now) w.blocks-is ∙ w.as_slice-blocks.ensures ∙ ap (λ p. part_of p slice) (sym w.in-Y.is)
      | in-Cb w ↦ ap (λ b. b.now) w.blocks-is ∙ w.as_slice-blocks-in-Cb.ensures ∙ ap (λ p. part_of p slice) (sym w.in-Cb.is)
      | in-Cr w ↦ ap (λ b. b.now) w.blocks-is ∙ w.as_slice-blocks-in-Cr.ensures ∙ ap (λ p. part_of p slice) (sym w.in-Cr.is)
    ] in
    c.put_part.ensures
    ∙ (λ i. with_placed c.args.plane.now (placed (blocks_of (c.requires.layout i) c.args.part c.args.place.now) (map (shown_block c.args.depth (c.weights_of-weights.ensures i) slice.index) (blocks i))))
