use Rattle.std.proofs.Common.{◌≡◌, ◌<◌, ℕ, get_or}
use Rattle.pr_frame.specs.declared.coded.CodedPicture.{CodedPicture}
use Rattle.run_look.proofs.comparing.have_slicing.Given as goal

abbrev pub invariant-loop-picture : goal.invariant-loop-picture
invariant-loop-picture l = (k : ℕ) (d : CodedPicture) → k < l.picture-index → (get_or l.pictures k d).log2 ≡ l.log2
