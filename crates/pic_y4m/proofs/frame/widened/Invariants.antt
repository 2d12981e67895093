use Rattle.std.proofs.Common.{◌≡◌, ℕ, ◌+◌, ◌*◌, ◌/◌, ◌%◌, ◌<◌, length, get_or}
use Rattle.pic_y4m.proofs.frame.widened.Given as goal

abbrev pub invariant-loop-row : goal.invariant-loop-row
invariant-loop-row l = record {
  len : length l.samples.items ≡ l.row * l.width;
  done : (k : ℕ) → k < l.row * l.width → get_or l.samples.items k 0 ≡ get_or l.stored (k / l.width / 2 * l.width + k % l.width) 0;
}
