use Rattle.std.proofs.Common.{◌≡◌, ◌*◌, ◌<◌, ◌≤◌, ◌^◌, ℕ, length, get_or, pos, nat_abs}
use Rattle.pr_quant.specs.Quantised.{scale_of, dequantised}
use Rattle.pr_frame.proofs.products.narrow_products.Given as goal

abbrev pub invariant-loop-place : goal.invariant-loop-place
invariant-loop-place l = record {
  whole : length l.products ≡ 64;
  values : (k : ℕ) → k < l.place → get_or l.products k (pos 0) ≡ dequantised (get_or l.block k (pos 0)) (get_or l.weights k 0 * scale_of l.index);
  within : (k : ℕ) → k < l.place → nat_abs (get_or l.products k (pos 0)) ≤ 2 ^ 19;
}
