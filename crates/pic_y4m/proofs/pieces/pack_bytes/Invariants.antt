use Rattle.std.proofs.Common.{◌≡◌, ℕ, ◌<◌, length, get_or}
use Rattle.pic_y4m.proofs.pieces.pack_bytes.Given as goal

abbrev pub invariant-loop-k : goal.invariant-loop-k
invariant-loop-k l = record {
  len : length l.bytes ≡ length l.samples;
  done : (i : ℕ) → i < l.k → get_or l.bytes i 0 ≡ get_or l.samples i 0;
}
