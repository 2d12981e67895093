use Rattle.pw_outside.specs.Reading.{rest_of}
use Rattle.std.proofs.Common.{ap, ◌∙◌}
use Rattle.pr_head.specs.inner.Steps.{picture_in}
use Rattle.pr_head.specs.Faults.{told_fault}
use Rattle.pw_outside.proofs.Steps.{agrees-same}
use Rattle.pr_head.proofs.Whole.{picture-same}
use Rattle.pr_head.proofs.picture.read_picture_header.Goals as goal

pub returns-clause-bytes : goal.returns-clause-bytes
returns-clause-bytes g c = λ enough. record {
  told = c.picture_from.ensures.bytes.told;
  answer = λ h. (c.picture_from.new.place, agrees-same told_fault _ _ _ (ap (λ at. picture_in c.args.frame c.args.header.now (rest_of at (g.S.ByteSource.left c.args.source.now))) c.from-place.ensures ∙ picture-same c.args.frame c.args.header.now (rest_of c.args.at (g.S.ByteSource.left c.args.source.now)) (enough h)) (c.picture_from.ensures.bytes.answer h));
}
