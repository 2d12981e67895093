use Rattle.std.proofs.Common.{◌≡◌, ℕ, ◌+◌, ◌*◌, ◌/◌, ◌%◌, ◌<◌, length, get_or}
use Rattle.pic_y4m.proofs.pieces.pack_pairs.Given as goal

abbrev pub invariant-loop-k : goal.invariant-loop-k
invariant-loop-k l = record {
  len : length l.bytes ≡ 2 * length l.samples;
  low : (i : ℕ) → i < l.k → get_or l.bytes (2 * i) 0 ≡ get_or l.samples i 0 % 256;
  high : (i : ℕ) → i < l.k → get_or l.bytes (2 * i + 1) 0 ≡ get_or l.samples i 0 / 256;
}
