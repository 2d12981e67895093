use Rattle.pw_outside.specs.Reading.{rest_of}
use Rattle.std.proofs.Common.{ap, ◌∙◌}
use Rattle.pr_head.specs.inner.Steps.{slice_in}
use Rattle.pr_head.specs.Faults.{told_fault}
use Rattle.pw_outside.proofs.Steps.{agrees-same}
use Rattle.pr_head.proofs.Whole.{slice-same}
use Rattle.pr_head.proofs.slice.read_slice_header.Goals as goal

pub returns-clause-bytes : goal.returns-clause-bytes
returns-clause-bytes g c = λ enough. record {
  told = c.slice_of.ensures.bytes.told;
  answer = λ h. (c.slice_of.new.place, agrees-same told_fault _ _ _ (ap (λ at. slice_in c.args.size c.args.alpha (rest_of at (g.S.ByteSource.left c.args.source.now))) c.from-place.ensures ∙ slice-same c.args.size c.args.alpha (rest_of c.args.at (g.S.ByteSource.left c.args.source.now)) (enough h)) (c.slice_of.ensures.bytes.answer h));
}
