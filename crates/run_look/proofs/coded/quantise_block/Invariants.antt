use Rattle.std.proofs.Common.{◌≡◌, ◌<◌, ℕ, pos, length, get_or}
use Rattle.pr_quant.specs.Quantised.{quantised}
use Rattle.run_look.proofs.coded.quantise_block.Given as goal

abbrev pub invariant-loop-place : goal.invariant-loop-place
invariant-loop-place l = record {
  whole : length l.values ≡ 64;
  each : (k : ℕ) → k < l.place → get_or l.values k (pos 0) ≡ quantised (get_or l.block k (pos 0)) (get_or l.multipliers k 0);
}
