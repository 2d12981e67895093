use Rattle.std.proofs.Common.{◌≡◌, ◌*◌, ◌≤◌, ◌^◌, map, sum, take}
use Rattle.pr_frame.specs.Written.{picture_length}
use Rattle.pr_frame.proofs.size.pictures_size.Given as goal

abbrev pub invariant-loop-picture : goal.invariant-loop-picture
invariant-loop-picture l = record {
  value : l.size ≡ sum (map (picture_length l.mode l.alpha) (take l.picture-index l.pictures));
  small : l.size ≤ 2 ^ 33 * l.picture-index;
}
