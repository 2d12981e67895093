use Rattle.pr_frame.specs.Forms.{places_in}
use Rattle.pr_frame.proofs.Counts.{places-have}
use Rattle.pr_frame.proofs.Short.{slices-short}
use Rattle.pr_frame.proofs.laws.slices_are_short.Goals as goal

pub returns : goal.returns
returns c = λ h log2 slices small are values. slices-short h (places_in h log2) slices (places-have h log2 small) are values
