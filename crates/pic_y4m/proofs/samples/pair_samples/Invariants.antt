use Rattle.std.proofs.Common.{◌≡◌, ℕ, ◌+◌, ◌*◌, ◌<◌, length, get_or}
use Rattle.pic_y4m.proofs.samples.pair_samples.Given as goal

abbrev pub invariant-loop-k : goal.invariant-loop-k
invariant-loop-k l = record {
  len : length l.samples.items ≡ l.count;
  done : (i : ℕ) → i < l.k → get_or l.samples.items i 0 ≡ get_or l.bytes (2 * i) 0 + 256 * get_or l.bytes (2 * i + 1) 0;
}
