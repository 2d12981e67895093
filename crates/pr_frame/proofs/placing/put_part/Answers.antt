use Rattle.std.proofs.Common.{◌≡◌, ◌+◌, ◌<◌, [], length, drop, map, get_or, ap, sym, ◌∙◌, arith}
use Rattle.std.proofs.lemmas.List.{length-map, get_or-map}
use Rattle.pr_geom.specs.Blocks.{blocks_of}
use Rattle.pr_frame.specs.Shown.{placed, shown_block}
use Rattle.pr_frame.specs.inner.Placing.{with_placed}
use Rattle.pr_frame.proofs.Placed.{placed_more, placed_end}
use Rattle.pr_frame.proofs.placing.put_part.Goals as goal

pub loop-k-preserved : goal.loop-k-preserved
loop-k-preserved c =
    let cs = blocks_of c.args.layout.now.chroma c.args.part c.args.slice.now in
    let f = shown_block c.args.depth c.args.weights.now c.args.index in
    let blocks = c.args.blocks.now in
    let bs = map f blocks in
    let k = c.loop-k.k in
    let len : length bs ≡ length cs = length-map blocks f ∙ c.requires.count in
    let below : k < length cs = omega (arith, c.loop-k-test.true, c.blocks-k-end.ensures.value) in
    let told : c.shown_block-samples.result ≡ get_or bs k [] =
    c.shown_block-samples.ensures ∙ ap (λ n. f (get_or blocks n [])) c.from.ensures ∙ sym (get_or-map f blocks k [] [] (omega (arith, c.requires.count))) in
    record {
      value = ap (λ p. with_placed p (drop (k + 1) (placed cs bs))) c.put_block.ensures
          ∙ sym (placed_more cs bs k len below c.loop-k.plane c.block_place-x.result c.shown_block-samples.result c.block_place-x.ensures told)
          ∙ c.loop-k.invariant.value;
    }

pub returns : goal.returns
returns c =
    let cs = blocks_of c.args.layout.now.chroma c.args.part c.args.slice.now in
    let f = shown_block c.args.depth c.args.weights.now c.args.index in
    let blocks = c.args.blocks.now in
    let bs = map f blocks in
    let len : length bs ≡ length cs = length-map blocks f ∙ c.requires.count in
    sym (placed_end cs bs c.loop-k.k len (omega (arith, c.loop-k-test.false, c.blocks-k-end.ensures.value)) c.loop-k.plane) ∙ c.loop-k.invariant.value
