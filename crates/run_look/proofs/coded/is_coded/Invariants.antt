use Rattle.std.proofs.Common.{◌≡◌, ◌<◌, ℕ, get_or}
use Rattle.pr_frame.specs.declared.coded.CodedPicture.{CodedPicture}
use Rattle.rate_build.specs.Coding.{coded_slices, coded_picture, weights_in}
use Rattle.run_look.proofs.coded.is_coded.Given as goal

abbrev pub invariant-loop-number : goal.invariant-loop-number
invariant-loop-number l = (k : ℕ) (d : CodedPicture) → k < l.number → get_or l.pictures k d ≡ coded_picture l.coefficients (coded_slices (weights_in l.header) l.coefficients.slices l.choice) k
