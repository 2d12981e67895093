use Rattle.std.proofs.Common.{◌≡◌, take}
use Rattle.std.specs.List.{All}
use Rattle.pr_frame.specs.Coded.{IsWritableSlice}
use Rattle.rate_build.specs.Coding.{coded_slices, weights_in}
use Rattle.rate_build.proofs.coding.slices_at.Given as goal

abbrev pub invariant-loop-i : goal.invariant-loop-i
invariant-loop-i l = record {
  value : l.coded.items ≡ coded_slices (weights_in l.header) (take l.i l.slices) (take l.i l.choice);
  small : All IsWritableSlice l.coded.items;
}
