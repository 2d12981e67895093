use Rattle.std.proofs.Common.{◌≡◌, drop, map}
use Rattle.pr_geom.specs.declared.places.Part.TheVariants.{Y}
use Rattle.pr_geom.specs.Blocks.{blocks_of}
use Rattle.pr_frame.specs.Shown.{placed, value_block}
use Rattle.pr_frame.specs.inner.Placing.{with_placed}
use Rattle.pr_frame.proofs.placing.put_values.Given as goal

abbrev pub invariant-loop-k : goal.invariant-loop-k
invariant-loop-k l = record {
  value : with_placed l.plane (drop l.k (placed (blocks_of l.layout.chroma Y l.slice) (map (value_block l.slice l.values) (blocks_of l.layout.chroma Y l.slice))))
      ≡ with_placed l.initial.plane (placed (blocks_of l.layout.chroma Y l.slice) (map (value_block l.slice l.values) (blocks_of l.layout.chroma Y l.slice)));
}
