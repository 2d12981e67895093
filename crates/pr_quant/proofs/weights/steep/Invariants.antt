use Rattle.std.proofs.Common.{◌≡◌, ℕ, ◌+◌, ◌/◌, ◌%◌, ◌<◌, length, get_or}
use Rattle.pr_quant.proofs.weights.steep.Given as goal

abbrev pub invariant-loop-place : goal.invariant-loop-place
invariant-loop-place l = (length l.weights ≡ 64) × ((k : ℕ) → k < l.place → get_or l.weights k 0 ≡ 4 + k / 8 + k % 8)
