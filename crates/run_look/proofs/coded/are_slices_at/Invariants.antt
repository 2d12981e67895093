use Rattle.std.proofs.Common.{◌≡◌, ◌<◌, ℕ, get_or}
use Rattle.pr_frame.specs.declared.coded.CodedSlice.{CodedSlice}
use Rattle.rate_build.specs.declared.slices.SliceCoefficients.{SliceCoefficients}
use Rattle.rate_build.specs.Coding.{coded_slice, weights_in}
use Rattle.run_look.proofs.coded.are_slices_at.Given as goal

abbrev pub invariant-loop-i : goal.invariant-loop-i
invariant-loop-i l = (k : ℕ) (d : SliceCoefficients) (x : CodedSlice) → k < l.i → get_or l.coded k x ≡ coded_slice (weights_in l.header) (get_or l.choice k 0) (get_or l.slices k d)
