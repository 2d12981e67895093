use Rattle.std.proofs.Common.{◌≡◌, ◌/◌, ◌%◌, ◌<◌, ℕ, length, get_or}
use Rattle.pr_pieces.specs.Shorts.{IsShortRun, none}
use Rattle.pr_pieces.proofs.shorts.short_runs.Given as goal

abbrev pub invariant-loop-index : goal.invariant-loop-index
invariant-loop-index l = record {
  size : length l.table ≡ 1536;
  found : (i : ℕ) → i < l.index → IsShortRun (i / 256) (i % 256) (get_or l.table i none);
}
