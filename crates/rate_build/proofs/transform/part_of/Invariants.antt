use Rattle.std.proofs.Common.{◌≡◌, map, take}
use Rattle.std.specs.List.{All}
use Rattle.pr_geom.specs.Blocks.{blocks_of}
use Rattle.rate_build.specs.Measures.{IsCoefficientBlock}
use Rattle.rate_build.specs.Coefficients.{coefficients_at}
use Rattle.rate_build.proofs.transform.part_of.Given as goal

abbrev pub invariant-loop-k : goal.invariant-loop-k
invariant-loop-k l = record {
  value : l.blocks.items ≡ map (coefficients_at l.plane l.depth) (take l.k (blocks_of l.layout.chroma l.part l.slice));
  each : All IsCoefficientBlock l.blocks.items;
}
