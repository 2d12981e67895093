use Rattle.std.proofs.Common.{◌≡◌, refl, ◌+◌, ◌<◌, [], length, drop, map, get_or, ap, sym, ◌∙◌, arith}
use Rattle.std.proofs.lemmas.List.{length-map, get_or-map}
use Rattle.pr_geom.specs.declared.places.Part.TheVariants.{Y}
use Rattle.pr_geom.specs.Blocks.{blocks_of}
use Rattle.pr_geom.proofs.BlockLemmas.{luma_count, luma_corner_of}
use Rattle.pr_frame.specs.Shown.{placed, value_block}
use Rattle.pr_frame.specs.inner.Placing.{with_placed}
use Rattle.pr_frame.proofs.Placed.{placed_more, placed_end, in_slice}
use Rattle.pr_frame.proofs.placing.put_values.Goals as goal

pub value_block-requires-clause-narrow : goal.value_block-requires-clause-narrow
value_block-requires-clause-narrow c = omega (arith, luma_count c.args.layout.now.chroma Y c.args.slice.now refl, c.blocks-k-end.ensures.value, c.blocks-k-end.ensures.limit)

pub value_block-requires-clause-place : goal.value_block-requires-clause-place
value_block-requires-clause-place c =
    let count = luma_count c.args.layout.now.chroma Y c.args.slice.now refl in
    let below : c.loop-k.k < length (blocks_of c.args.layout.now.chroma Y c.args.slice.now) = omega (arith, c.loop-k-test.true, c.blocks-k-end.ensures.value) in
    in_slice c.args.slice.now c.loop-k.k c.block_place-x.result (omega (arith, count, below))
    (luma_corner_of c.args.layout.now.chroma Y c.args.slice.now c.loop-k.k refl below ∙ sym c.block_place-x.ensures)

pub loop-k-preserved : goal.loop-k-preserved
loop-k-preserved c =
    let cs = blocks_of c.args.layout.now.chroma Y c.args.slice.now in
    let f = value_block c.args.slice.now c.args.values.now in
    let bs = map f cs in
    let k = c.loop-k.k in
    let len : length bs ≡ length cs = length-map cs f in
    let below : k < length cs = omega (arith, c.loop-k-test.true, c.blocks-k-end.ensures.value) in
    let told : c.value_block.result ≡ get_or bs k [] = c.value_block.ensures ∙ ap f c.block_place-x.ensures ∙ sym (get_or-map f cs k (0, 0) [] below) in
    record {
      value = ap (λ p. with_placed p (drop (k + 1) (placed cs bs))) c.put_block.ensures
          ∙ sym (placed_more cs bs k len below c.loop-k.plane c.block_place-x.result c.value_block.result c.block_place-x.ensures told)
          ∙ c.loop-k.invariant.value;
    }

pub returns : goal.returns
returns c =
    let cs = blocks_of c.args.layout.now.chroma Y c.args.slice.now in
    let f = value_block c.args.slice.now c.args.values.now in
    sym (placed_end cs (map f cs) c.loop-k.k (length-map cs f) (omega (arith, c.loop-k-test.false, c.blocks-k-end.ensures.value)) c.loop-k.plane) ∙ c.loop-k.invariant.value
