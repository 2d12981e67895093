use Rattle.pw_outside.specs.Reading.{rest_of}
use Rattle.std.proofs.Common.{refl}
use Rattle.pr_head.specs.Faults.{told_fault}
use Rattle.pw_outside.proofs.Steps.{agrees-same}
use Rattle.pr_head.proofs.Whole.{header-same}
use Rattle.pr_head.proofs.frame.read_frame_header.Goals as goal

pub returns-clause-bytes : goal.returns-clause-bytes
returns-clause-bytes g c = record {
  told = c.header_of.ensures.bytes.told;
  answer = λ h. (c.header_of.new.place, agrees-same told_fault _ _ _ (header-same c.args.size (rest_of 0 (g.S.ByteSource.left c.args.source.now)) refl (c.requires h)) (c.header_of.ensures.bytes.answer h));
}
