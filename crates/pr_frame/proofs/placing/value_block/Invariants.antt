use Rattle.std.proofs.Common.{◌≡◌, ℕ, ◌+◌, ◌*◌, ◌/◌, ◌%◌, ◌<◌, length, get_or}
use Rattle.pr_frame.proofs.placing.value_block.Given as goal

abbrev pub invariant-loop-row : goal.invariant-loop-row
invariant-loop-row l = record {
  len : length l.block ≡ 64;
  done : (k : ℕ) → k < 8 * l.row → get_or l.block k 0 ≡ get_or l.values (l.at + k / 8 * l.width + k % 8) 0;
}
