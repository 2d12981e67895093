use Rattle.std.proofs.Common.{◌≡◌, drop, map}
use Rattle.pr_geom.specs.Blocks.{blocks_of}
use Rattle.pr_frame.specs.Shown.{placed, shown_block}
use Rattle.pr_frame.specs.inner.Placing.{with_placed}
use Rattle.pr_frame.proofs.placing.put_part.Given as goal

abbrev pub invariant-loop-k : goal.invariant-loop-k
invariant-loop-k l = record {
  value : with_placed l.plane (drop l.k (placed (blocks_of l.layout.chroma l.part l.slice) (map (shown_block l.depth l.weights l.index) l.blocks)))
      ≡ with_placed l.initial.plane (placed (blocks_of l.layout.chroma l.part l.slice) (map (shown_block l.depth l.weights l.index) l.blocks));
}
