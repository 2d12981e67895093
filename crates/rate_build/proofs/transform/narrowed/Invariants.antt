use Rattle.std.proofs.Common.{◌≡◌, ◌<◌, ℕ, pos, length, get_or}
use Rattle.rate_build.proofs.transform.narrowed.Given as goal

abbrev pub invariant-loop-place : goal.invariant-loop-place
invariant-loop-place l = record {
  whole : length l.narrow ≡ 64;
  values : (k : ℕ) → k < l.place → get_or l.narrow k (pos 0) ≡ get_or l.block k (pos 0);
}
