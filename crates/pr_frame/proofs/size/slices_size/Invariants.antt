use Rattle.std.proofs.Common.{◌≡◌, ◌*◌, ◌≤◌, map, sum, take}
use Rattle.pr_frame.specs.Written.{slice_length}
use Rattle.pr_frame.proofs.size.slices_size.Given as goal

abbrev pub invariant-loop-slice : goal.invariant-loop-slice
invariant-loop-slice l = record {
  value : l.size ≡ sum (map (slice_length l.mode l.alpha) (take l.slice-index l.slices));
  small : l.size ≤ 65535 * l.slice-index;
}
