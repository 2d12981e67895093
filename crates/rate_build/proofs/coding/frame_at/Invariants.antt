use Rattle.std.proofs.Common.{◌≡◌, map}
use Rattle.std.specs.List.{All, range_with_len}
use Rattle.pr_frame.specs.Coded.{IsWritablePicture}
use Rattle.rate_build.specs.Coding.{coded_slices, coded_picture, weights_in}
use Rattle.rate_build.proofs.coding.frame_at.Given as goal

abbrev pub invariant-loop-number : goal.invariant-loop-number
invariant-loop-number l = record {
  value : l.pictures.items ≡ map (coded_picture l.coefficients (coded_slices (weights_in l.header) l.coefficients.slices l.choice)) (range_with_len 0 l.number);
  small : All IsWritablePicture l.pictures.items;
}
