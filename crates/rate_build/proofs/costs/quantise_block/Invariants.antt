use Rattle.std.proofs.Common.{◌≡◌, ◌*◌, ◌^◌, ◌<◌, ◌≤◌, ℕ, pos, length, get_or}
use Rattle.pr_quant.specs.Quantised.{quantised}
use Rattle.pr_quant.proofs.ErrorLemmas.{errors_below}
use Rattle.rate_build.proofs.costs.quantise_block.Given as goal

abbrev pub invariant-loop-place : goal.invariant-loop-place
invariant-loop-place l = record {
  whole : length l.quantised ≡ 64;
  values : (k : ℕ) → k < l.place → get_or l.quantised k (pos 0) ≡ quantised (get_or l.block k (pos 0)) (get_or l.multipliers k 0);
  error : l.error ≡ errors_below l.multipliers l.block l.place;
  small : l.error ≤ l.place * 2 ^ 28;
}
