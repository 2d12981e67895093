use Rattle.std.proofs.Common.{◌+◌, ◌*◌, ◌/◌, ◌%◌, ◌∙◌}
use Rattle.pr_geom.proofs.BlockLemmas.{luma_corner_of, narrow_corner_of, wide_corner_of}
use Rattle.pr_geom.proofs.layout.Layout.block_place.Goals as goal

pub returns-in_default-Y : goal.returns-in_default-Y
returns-in_default-Y c =
    (λ i. (16 * (c.from-column.ensures i + c.from-k.ensures i / 4) + 8 * (c.from-k.ensures i % 2), 16 * c.from-y.ensures i + 8 * (c.from-k.ensures i % 4 / 2)))
    ∙ luma_corner_of c.args.self.now.chroma c.args.part c.args.slice.now c.args.k c.in_default-Y.is-1 c.requires.block

pub returns-in-C422-default : goal.returns-in-C422-default
returns-in-C422-default c =
    (λ i. (8 * (c.from-column.ensures i + c.from-k.ensures i / 2), 16 * c.from-y.ensures i + 8 * (c.from-k.ensures i % 2)))
    ∙ narrow_corner_of c.args.self.now.chroma c.args.part c.args.slice.now c.args.k c.in-C422-default.is-0 c.in-C422-default.not-Y-1 c.requires.block

pub returns-in-C444-default : goal.returns-in-C444-default
returns-in-C444-default c =
    (λ i. (16 * (c.from-column.ensures i + c.from-k.ensures i / 4) + 8 * (c.from-k.ensures i % 4 / 2), 16 * c.from-y.ensures i + 8 * (c.from-k.ensures i % 2)))
    ∙ wide_corner_of c.args.self.now.chroma c.args.part c.args.slice.now c.args.k c.in-C444-default.is-0 c.in-C444-default.not-Y-1 c.requires.block
