use Rattle.std.proofs.Common.{◌≡◌, ◌*◌, ◌^◌, ◌<◌, ◌≤◌, ℕ, [], get_or, take}
use Rattle.std.specs.List.{sum_by}
use Rattle.pr_quant.specs.Errors.{block_error}
use Rattle.rate_build.specs.Measures.{quantised_block}
use Rattle.rate_build.proofs.costs.quantise_blocks.Given as goal

abbrev pub invariant-loop-i : goal.invariant-loop-i
invariant-loop-i l = record {
  values : (k : ℕ) → k < l.i → get_or l.quantised k [] ≡ quantised_block l.multipliers (get_or l.blocks k []);
  error : l.error ≡ sum_by (block_error l.multipliers) (take l.i l.blocks);
  small : l.error ≤ l.i * (64 * 2 ^ 28);
}
