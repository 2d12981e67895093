use Rattle.std.proofs.Common.{◌+◌, ◌/◌, ◌%◌, ◌∙◌, get_or, ap, arith}
use Rattle.pw_planes.proofs.RowLemmas.{raster_by}
use Rattle.pr_frame.specs.Shown.{alpha_value, value_block}
use Rattle.pr_frame.proofs.Placed.{value_at}
use Rattle.pr_frame.proofs.placing.value_block.Goals as goal

pub returns : goal.returns
unfolding value_block
returns c =
    let slice = c.args.slice.now in
    let values = c.args.values.now in
    raster_by 8 8 (λ column row. alpha_value slice values (c.args.x + column) (c.args.y + row)) c.loop-row.block c.loop-row.invariant.len
    (λ k h. c.loop-row.invariant.done k (omega arith)
    ∙ ap (λ n. get_or values n 0) (value_at slice c.args.x c.args.y (k % 8) (k / 8) c.value_place-at.result _ c.requires.place c.value_place-at.ensures.value (omega arith)))
