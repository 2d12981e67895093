use Rattle.std.proofs.Common.{◌<◌, ◌≤◌, ℕ, get_or, pos, nat_abs}
use Rattle.pr_frame.proofs.products.is_flat.Given as goal

abbrev pub invariant-loop-place : goal.invariant-loop-place
invariant-loop-place l = (k : ℕ) → k < l.place → 0 < k → nat_abs (get_or l.block k (pos 0)) ≤ l.any
