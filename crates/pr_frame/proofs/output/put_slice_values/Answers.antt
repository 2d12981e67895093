use Rattle.std.proofs.Common.{◌≡◌, map, ap, sym, ◌∙◌, Some}
use Rattle.pr_geom.specs.declared.places.Part.TheVariants.{Y}
use Rattle.pr_geom.specs.Blocks.{blocks_of}
use Rattle.pr_frame.specs.Shown.{placed, value_block, shown_values}
use Rattle.pr_frame.specs.inner.Placing.{with_placed}
use Rattle.pr_frame.specs.inner.Output.{with_values}
use Rattle.pr_frame.proofs.output.put_slice_values.Goals as goal

pub returns-in-Some : goal.returns-in-Some
unfolding shown_values
returns-in-Some c =
    let place = c.args.place.now in
    let corners : blocks_of c.args.layout.now.chroma Y place ≡ blocks_of c.args.header.now.chroma Y place = ap (λ t. blocks_of t Y place) c.requires.layout in
    ap Some (c.put_values.ensures ∙ (λ i. with_placed c.in-Some.plane (placed (corners i) (map (value_block place (c.as_slice.ensures i)) (corners i)))))
    ∙ ap (with_values c.args.header.now place c.args.slice.now) (sym c.in-Some.is)
