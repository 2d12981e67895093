use Rattle.std.proofs.Common.{◌≡◌, ◌*◌, ◌<◌, ℕ, length, get_or}
use Rattle.pr_quant.specs.Quantised.{scale_of}
use Rattle.pr_quant.proofs.multipliers_of.Given as goal

abbrev pub invariant-loop-place : goal.invariant-loop-place
invariant-loop-place l = record {
  whole : length l.products ≡ 64;
  values : (k : ℕ) → k < l.place → get_or l.products k 0 ≡ get_or l.weights k 0 * scale_of l.index;
}
