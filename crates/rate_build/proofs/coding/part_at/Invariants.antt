use Rattle.std.proofs.Common.{◌≡◌, map, take}
use Rattle.rate_build.specs.Measures.{quantised_block}
use Rattle.rate_build.proofs.coding.part_at.Given as goal

abbrev pub invariant-loop-block : goal.invariant-loop-block
invariant-loop-block l = l.quantised.items ≡ map (quantised_block l.multipliers) (take l.block-index l.blocks)
